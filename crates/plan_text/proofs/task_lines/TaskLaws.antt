-- The task of a line's numbers: the code makes it of all that a line can have, the definition of those that it has.
use mathlib.Core.Path.{◌≡◌, refl, sym, ap, ◌∙◌}
use mathlib.Core.Bool.{Bool, true, false, cond, ◌&&◌}
use mathlib.Core.List.{List, [], ◌∷◌, ◌++◌, map, append-nil}
use Prim.Native.Nat.{ℕ, ◌+◌, ◌-◌, ◌≤◌}
use native.Mathlib.Omega.{arith}
use lib.Dec.{eqb}
use lib.ListN.{length, get_or, drop, replicate, length-append, length-drop, length-replicate, length-map, get_or-append}
use lib.Seq.{get_or-drop, drop-append-le}
use borrow.Author.Tests.{eqb-true}
use Rattle.std.proofs.Common.{Option, Some, None}
use Rattle.std.specs.Array.{AllOfLen}
use Rattle.model.specs.Lists.{all, upward}
use Rattle.lists.proofs.Fills.{upward-same, upward_list}
use Rattle.lists.proofs.Tests.{and_both}
use Rattle.text.specs.Parts.{words}
use Rattle.text.specs.Number.{value_of}
use Rattle.text.specs.Numbers.{fits, fit_all, numbers_in}
use Rattle.text.proofs.numbers.RuleLaws.{nine_digits, same_rule}
use Rattle.plan_model.specs.declared.Task.{Task}
use Rattle.plan_model.specs.declared.Verdict.{Verdict}
use Rattle.plan_model.specs.declared.Verdict.TheVariants.{Late}
use Rattle.plan_model.specs.Records.{blank}
use Rattle.plan_model.specs.Limits.{max_numbers}
use Rattle.plan_model.specs.Number.{is_number}
use Rattle.plan_model.specs.Input.{is_numbers, is_task_line, task_of, task_at}

-- The costs among as many numbers as a line can have.
pub costs_of_lem : (vs : List ℕ) → length vs ≡ max_numbers → upward 0 8 (λ k. get_or vs (2 + k) 0) ≡ drop 2 vs ++ replicate (max_numbers - length vs) 0
costs_of_lem vs long =
    upward-same 8 (λ i. get_or vs (2 + i) 0) (λ i. get_or (drop 2 vs) i 0) (λ i h. sym (get_or-drop 2 vs i 0))
    ∙ upward_list 0 (drop 2 vs) 8 (length-drop 2 vs ∙ rw long)
    ∙ sym (rw long (append-nil (drop 2 vs)))

-- Zeros after the numbers do not change the task.
task_padded : (vs : List ℕ) → 2 ≤ length vs → length vs ≤ max_numbers → task_of (vs ++ replicate (max_numbers - length vs) 0) ≡ task_of vs
unfolding task_of
task_padded vs low high =
    let zeros : List ℕ = replicate (max_numbers - length vs) 0 in
    let long : length (vs ++ zeros) ≡ max_numbers = length-append vs zeros ∙ omega (arith, length-replicate {A = ℕ} (max_numbers - length vs) 0) in
    rw (
      long,
      get_or-append vs zeros 0 0 (omega arith),
      get_or-append vs zeros 0 1 (omega arith),
      drop-append-le 2 vs zeros low,
      append-nil (drop 2 vs ++ zeros),
    )

-- "unsigned decimals of 1 to 9 digits" are those of at most 999,999,999.
same_word : (w : List ℕ) → fits 999999999 w ≡ is_number w
unfolding is_number
same_word w = nine_digits w

same_words : (ws : List (List ℕ)) → all (fits 999999999) ws ≡ all is_number ws
unfolding all
same_words [] = refl
same_words (w ∷ ws) = rw (same_word w, same_words ws)

pub number_form : (w : List ℕ) → fits 999999999 w ≡ is_number w
number_form = same_word

-- What the answer about a line tells, which is to have so many numbers.
module _ (n : ℕ) (line : List ℕ) where
  form_is : fit_all (replicate (2 + n) 999999999) (words line) ≡ is_task_line n line
  unfolding is_numbers
  form_is = same_rule 999999999 (2 + n) (words line) ∙ rw (same_words (words line))

  by_form_some : (t : Bool) (vs : List ℕ) (x : List ℕ) → cond t (Some vs) None ≡ Some x → (t ≡ true) × (x ≡ vs)
  by_form_some true vs x e = (refl, cc)
  by_form_some false vs x e = absurd (let z : ⊥ = cc in z)

  by_form_none : (t : Bool) (vs : List ℕ) → cond t (Some vs) None ≡ None → t ≡ false
  by_form_none true vs e = absurd (let z : ⊥ = cc in z)
  by_form_none false vs e = refl

  module _ {answer : Option (List ℕ)} (is : answer ≡ numbers_in max_numbers (replicate (2 + n) 999999999) line) where
    pub was_task : n ≤ 8 → {numbers : List ℕ} → answer ≡ Some numbers → (is_task_line n line ≡ true) × (task_of numbers ≡ task_at line)
    unfolding numbers_in is_numbers task_at
    was_task few {numbers} e =
        let vs = map value_of (words line) in
        let k = by_form_some (fit_all (replicate (2 + n) 999999999) (words line)) (vs ++ replicate (max_numbers - length (words line)) 0) numbers (sym is ∙ e) in
        let form : is_task_line n line ≡ true = sym form_is ∙ k.0 in
        let count : length (words line) ≡ 2 + n = eqb-true (length (words line)) (2 + n) (and_both (all is_number (words line)) (eqb (length (words line)) (2 + n)) form).1 in
        let long : length vs ≡ 2 + n = length-map (words line) value_of ∙ count in
        (form, rw (k.1, ← length-map (words line) value_of) (task_padded vs (omega arith) (omega arith)))

    pub was_no_task : answer ≡ None → is_task_line n line ≡ false
    unfolding numbers_in
    was_no_task e =
        sym form_is ∙ by_form_none (fit_all (replicate (2 + n) 999999999) (words line)) (map value_of (words line) ++ replicate (max_numbers - length (words line)) 0) (sym is ∙ e)

-- The default of a task, as its derive has it, is a record with nothing in it.
no_costs : (l : List ℕ) → AllOfLen (λ x. x ≡ 0) l 8 → l ≡ replicate 8 0
unfolding upward
no_costs l h = sym (upward_list 0 l 8 h.long) ∙ upward-same 8 _ (λ i. 0) (λ i low. h.at i 0 low)

by_parts : {p d b r : ℕ} {costs : List ℕ} {v : Verdict} → p ≡ 0 → d ≡ 0 → costs ≡ replicate 8 0 → b ≡ 0 → r ≡ 0 → v ≡ Late → record { period = p; deadline = d; costs = costs; base = b; response = r; verdict = v } ≡ blank
by_parts p d c b r v = cc

pub default_blank : {t : Task} → (t.period ≡ 0 × (t.deadline ≡ 0 × (AllOfLen (λ x. x ≡ 0) t.costs 8 × (t.base ≡ 0 × (t.response ≡ 0 × t.verdict ≡ Late))))) → t ≡ blank
default_blank {t} (p, (d, (c, (b, (r, v))))) = by_parts p d (no_costs t.costs c) b r v
