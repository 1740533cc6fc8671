-- The first line and what follows it: questions 15 to 17 in their order.
use mathlib.Core.Path.{◌≡◌, refl, ap, ◌∙◌}
use mathlib.Core.Bool.{Bool, true, false, cond}
use mathlib.Core.List.{List, [], ◌∷◌}
use Prim.Native.Nat.{ℕ, ◌≤◌, ◌<◌}
use native.Mathlib.Omega.{arith}
use lib.ListN.{length}
use borrow.Author.Tests.{le-leb, lt-leb}
use Rattle.std.proofs.Common.{Option, Some, None}
use Rattle.std.specs.Prelude.{Err}
use Rattle.model.specs.Limits.{max_stations}
use Rattle.model.specs.Lists.{within}
use Rattle.lists.proofs.Tests.{and_false}
use Rattle.text.specs.Parts.{line_feed, parts, lines_of, lines}
use Rattle.text.specs.Number.{value_of}
use Rattle.text.specs.Numbers.{fits, number_in}
use Rattle.text.proofs.parts.PartLaws.{parts_some}
use Rattle.plan_model.specs.Limits.{max_input}
use Rattle.plan_model.specs.Number.{is_number}
use Rattle.plan_model.specs.Input.{is_stations, stations_of, tasks_of}
use Rattle.plan_text.specs.declared.answer.Form.TheVariants.{TooLong, NotStations}
use Rattle.plan_text.specs.TaskLines.{table_of}
use Rattle.plan_text.specs.Parsed.{parsed}
use Rattle.plan_text.proofs.task_lines.TaskLaws.{number_form}

-- A part that another follows is a line.
lines_after : (p : List ℕ) (ps : List (List ℕ)) → 0 < length ps → lines_of (p ∷ ps) ≡ p ∷ lines_of ps
unfolding lines_of
lines_after p [] h = absurd (let z : ⊥ = omega arith in z)
lines_after p (q ∷ ps) h = refl

-- What the answer about the first word tells.
number_some : (t : Bool) (v n : ℕ) → Some n ≡ cond t (Some v) None → (t ≡ true) × (v ≡ n)
number_some true v n e = (refl, cc)
number_some false v n e = absurd (let z : ⊥ = cc in z)

number_none : (t : Bool) (v : ℕ) → None ≡ cond t (Some v) None → t ≡ false
number_none true v e = absurd (let z : ⊥ = cc in z)
number_none false v e = refl

was_number : (word : List ℕ) (n : ℕ) → Some n ≡ number_in 999999999 word → (is_number word ≡ true) × (value_of word ≡ n)
unfolding number_in
was_number word n e = let k = number_some (fits 999999999 word) (value_of word) n e in (rw number_form at k.0, k.1)

was_none : (word : List ℕ) → None ≡ number_in 999999999 word → is_number word ≡ false
unfolding number_in
was_none word e = rw number_form at (number_none (fits 999999999 word) (value_of word) e)

module _ (input : List ℕ) where
  pub too_long : max_input < length input → Err TooLong ≡ parsed input
  unfolding parsed
  too_long h = rw (lt-leb (length input) max_input h)

  module _ (short : length input ≤ max_input) where
    not_stations : is_stations (lines input) ≡ false → Err NotStations ≡ parsed input
    unfolding parsed
    not_stations e = rw (le-leb (length input) max_input short, e)

    -- No line feed ends the first line.
    pub no_first_line : (word : List ℕ) → parts line_feed input ≡ word ∷ [] → Err NotStations ≡ parsed input
    unfolding is_stations lines lines_of
    no_first_line word split = not_stations (rw split)

    -- One ends it: it is a line, and the parts after it are those of the tasks.
    module _ (word rest : List ℕ) (split : parts line_feed input ≡ word ∷ parts line_feed rest) where
      lines_are : lines input ≡ word ∷ lines_of (parts line_feed rest)
      unfolding lines
      lines_are = ap lines_of split ∙ lines_after word (parts line_feed rest) (parts_some line_feed rest)

      pub no_number : None ≡ number_in 999999999 word → Err NotStations ≡ parsed input
      unfolding is_stations
      no_number e = not_stations (rw (lines_are, was_none word e))

      module _ (n : ℕ) (is : Some n ≡ number_in 999999999 word) where
        pub out_of_range_lem : within 1 max_stations n ≡ false → Err NotStations ≡ parsed input
        unfolding is_stations
        out_of_range_lem e = not_stations (rw (lines_are, (was_number word n is).1, e, and_false (is_number word)))

        pub tasks_read : within 1 max_stations n ≡ true → table_of n (parts line_feed rest) ≡ parsed input
        unfolding parsed table_of is_stations stations_of tasks_of
        tasks_read inside =
            let k = was_number word n is in
            rw (le-leb (length input) max_input short, lines_are, k.0, k.1, inside, split)
