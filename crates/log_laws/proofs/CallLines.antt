-- From the second line on: a line of the form moves the state on by its call, one of another form settles it, and with the last number of 64 bits lines are
-- no longer counted. So what is printed after any lines is what their forms and their calls say, by going down the lines.
use mathlib.Core.Path.{◌≡◌, refl, sym, ap, ◌∙◌}
use mathlib.Core.Logic.{◌⊎◌, inl, inr}
use mathlib.Core.Bool.{Bool, true, false, cond, not, ◌||◌, or-true, true≢false}
use mathlib.Core.List.{List, [], ◌∷◌, ◌++◌, map, foldl}
use Prim.Native.Nat.{ℕ, zero, suc, ◌+◌, ◌≤◌, ◌<◌}
use native.Mathlib.Numerals.{add-one}
use native.Mathlib.Omega.{arith}
use lib.ListN.{length, length-take}
use lib.Seq.{take_all}
use lib.Dec.{ltb, eqb}
use borrow.Author.Tests.{eq-eqb, ne_eqb, lt-ltb, le-ltb, ltb-true, ltb-false}
use Rattle.model.specs.Limits.{max_stations}
use Rattle.model.specs.Lists.{is_zero}
use Rattle.model.specs.Image.{decode}
use Rattle.model.specs.Calls.{perform}
use Rattle.schedule.proofs.Laws.{test, by_cond}
use Rattle.log_model.specs.declared.Reading.{Reading}
use Rattle.log_model.specs.declared.Rerun.{Rerun}
use Rattle.log_model.specs.Limits.{max_line, last_line}
use Rattle.log_model.specs.Lines.{Line, offered, advanced, line_of, call_of}
use Rattle.log_model.specs.Rerun.{lent_reply}
use Rattle.log_model.specs.Output.{is_call, unended, first_false, refused_line}
use Rattle.log_model.specs.Reading.{Ran, next_line, settled, refused_here, passed_by, occupied, tick_passed, after_line, compared_by, ran_line, call_line, line_ended, at_end, printed}
use Rattle.log_laws.proofs.Feeding.{cut, Holds, after_lines}
use Rattle.log_laws.proofs.Counting.{ran_one}
use Rattle.log_laws.proofs.Lines.{form_short}

-- ---- what is printed, by whether nothing is held
abbrev pub none : List ℕ → Bool
none [] = true
none (b ∷ bs) = false

none_held : (r : Reading) (p : List ℕ) → Holds r p → is_zero r.held ≡ none p
none_held r [] h = eq-eqb r.held 0 h.count
none_held r (b ∷ p) h = ne_eqb r.held 0 (λ z. omega (arith, h.count))

unfoldable pub shown : Rerun → Bool → List ℕ
shown r none =
    cond (not (is_zero r.refused)) (refused_line r.refused)
    (cond (is_zero r.line) []
    (cond (not none || eqb r.line 1) (refused_line r.line) (at_end r)))

pub printed_shown : (r : Reading) (p : List ℕ) → Holds r p → printed r ≡ shown r.rerun (none p)
unfolding printed shown
printed_shown r p h = ap (shown r.rerun) (none_held r p h)

-- ---- what is said of lines from line k on by their forms, where `out` is said of them when all have the form
abbrev pub verdict : ℕ → List Bool → List ℕ → List ℕ
verdict k forms out = cond (is_zero (first_false k forms)) out (refused_line (first_false k forms))

pub verdict_true : (k : ℕ) (forms : List Bool) (out : List ℕ) → verdict k (true ∷ forms) out ≡ verdict (k + 1) forms out
unfolding first_false
verdict_true k forms out = rw add-one

pub verdict_false : (k : ℕ) (forms : List Bool) (out : List ℕ) → 1 ≤ k → verdict k (false ∷ forms) out ≡ refused_line k
unfolding first_false
verdict_false k forms out some = rw (ne_eqb k 0 (λ z. omega arith))

verdict_end_lem : (k : ℕ) (p out : List ℕ) → 1 ≤ k → verdict k (unended p) out ≡ cond (none p) out (refused_line k)
unfolding unended first_false
verdict_end_lem k [] out some = refl
verdict_end_lem k (b ∷ p) out some = verdict_false k [] out some

-- ---- a line has the form as far as it is held exactly when it has it: a line of the form is shorter
module _ (form : List ℕ → Bool) (short : (line : List ℕ) → form line ≡ true → length line < max_line) (line : List ℕ) where
  pub cut_whole : form line ≡ true → cut line ≡ line
  unfolding cut
  cut_whole e = take_all max_line line (omega (arith, short line e))

  pub cut_other : form line ≡ false → form (cut line) ≡ false
  unfolding cut
  cut_other e = elim (test (form (cut line))) [ inl t ↦ absurd (true≢false (sym t ∙ ap form (whole t) ∙ e)) | inr t ↦ t ]
    where
      whole : form (cut line) ≡ true → cut line ≡ line
      whole t = take_all max_line line (omega (arith, short (cut line) t, length-take max_line line))

-- ---- a state that is settled
settled_stays : (s : Ran) → settled s.rerun ≡ true → (lines : List (List ℕ)) → after_lines s lines ≡ s
settled_stays s e [] = refl
settled_stays s e (line ∷ later) = ap (λ (t : Ran). after_lines t later) (stays (cut line)) ∙ settled_stays s e later
  where
    stays : (line : List ℕ) → line_ended s line ≡ s
    stays line = unfold line_ended in rw e

uncounted_stays : (s : Ran) (lines : List (List ℕ)) (none : Bool) → s.rerun.line ≡ 0 → s.rerun.refused ≡ 0 → shown (after_lines s lines).rerun none ≡ []
unfolding shown settled
uncounted_stays s lines none e q = rw (settled_stays s (rw e) lines, q, e)

pub refused_stays : (s : Ran) (lines : List (List ℕ)) (none : Bool) (k : ℕ) → 1 ≤ k → s.rerun.refused ≡ k → shown (after_lines s lines).rerun none ≡ refused_line k
unfolding shown settled
refused_stays s lines none k some e =
    let other : is_zero k ≡ false = ne_eqb k 0 (λ z. omega arith) in
    rw (settled_stays s (rw (e, other, or-true)) lines, e, other)

-- ---- a state at line k of a log of n stations
pub record AtLine (n k : ℕ) (r : Rerun) : Type 0 where
  pub line : r.line ≡ k
  pub stations : r.stations ≡ n
  pub refused : r.refused ≡ 0

shown_at : {n k : ℕ} (r : Rerun) (none : Bool) → 2 ≤ k → AtLine n k r → shown r none ≡ cond none (at_end r) (refused_line k)
unfolding shown
shown_at {k = k} r true some a = rw (a.refused, a.line, ne_eqb k 0 (λ z. omega arith), ne_eqb k 1 (λ z. omega arith))
shown_at {k = k} r false some a = rw (a.refused, a.line, ne_eqb k 0 (λ z. omega arith))

-- The call of a line of the form brings it to the next line.
at_passed : (line : Line) (number : ℕ) (here : List Bool) (r : Rerun) {n k : ℕ} → AtLine n k r → AtLine n k (after_line line number here r)
unfolding after_line tick_passed
at_passed (offered due_in ranks costs given ticket) number here r a = a
at_passed (advanced ticket) zero here r a = record { line = a.line; stations = a.stations; refused = a.refused }
at_passed (advanced ticket) (suc other) here r a = a

module _ {n k : ℕ} (s : Ran) (a : AtLine n k s.rerun) where
  next_ran : (line : Line) → AtLine n (next_line k) (ran_line s line).rerun
  unfolding ran_line compared_by
  next_ran line =
      let r = at_passed line (perform (call_of line) s.image lent_reply).number (occupied (decode s.image).orders) s.rerun a in
      record { line = ap next_line r.line; stations = r.stations; refused = r.refused }

  next_passed : AtLine n (next_line k) (passed_by s.rerun)
  unfolding passed_by
  next_passed = record { line = ap next_line a.line; stations = a.stations; refused = a.refused }

  next_one : (line : Line) → AtLine n (next_line k) (ran_one s line).rerun
  next_one line = by_cond (λ (t : Ran). AtLine n (next_line k) t.rerun) (is_zero s.rerun.differs) (next_ran line) next_passed

-- A line ends, of the form or of another.
module _ {n k : ℕ} (s : Ran) (high : n ≤ max_stations) (some : 2 ≤ k) (a : AtLine n k s.rerun) (line : List ℕ) where
  not_settled : settled s.rerun ≡ false
  unfolding settled
  not_settled = rw (a.line, a.refused, a.stations, ne_eqb k 0 (λ z. omega arith), le-ltb max_stations n high)

  as_call : line_ended s line ≡ call_line s line
  unfolding line_ended
  as_call = rw (not_settled, a.line, ne_eqb k 1 (λ z. omega arith))

  call_ended : is_call n line ≡ true → line_ended s line ≡ ran_one s (line_of n line)
  unfolding call_line
  call_ended e = as_call ∙ rw (a.stations, e)

  other_ended : is_call n line ≡ false → (line_ended s line).rerun.refused ≡ k
  unfolding call_line refused_here
  other_ended e = ap (λ (t : Ran). t.rerun.refused) as_call ∙ rw (a.stations, e) a.line

-- ---- all lines from line k on, and the bytes p after them
abbrev got : Ran → List (List ℕ) → List ℕ → List ℕ
got s lines p = shown (after_lines s lines).rerun (none p)

abbrev wanted : ℕ → ℕ → List (List ℕ) → List ℕ → List ℕ → List ℕ
wanted n k lines p out = verdict k (map (is_call n) lines ++ unended p) out

-- The state is at line k, and the calls of the lines that are left lead to `out`, as long as lines are counted.
pub record From (n k : ℕ) (s : Ran) (lines : List (List ℕ)) (out : List ℕ) : Type 0 where
  pub low : 2 ≤ k
  pub counted : k ≤ last_line
  pub at_line : AtLine n k s.rerun
  pub ends : k + length lines ≤ last_line → at_end (foldl ran_one s (map (line_of n) lines)).rerun ≡ out

-- What is wanted is printed, or nothing where the next line's number would be above the last.
abbrev pub Prints : ℕ → ℕ → Ran → List (List ℕ) → List ℕ → List ℕ → Type 0
Prints n k s lines p out = (got s lines p ≡ wanted n k lines p out) ⊎ ((got s lines p ≡ []) × (last_line < k + length lines))

module _ (n : ℕ) (high : n ≤ max_stations) (p out : List ℕ) where
  got_none : (k : ℕ) (s : Ran) → From n k s [] out → got s [] p ≡ wanted n k [] p out
  got_none k s f =
      shown_at s.rerun (none p) f.low f.at_line
      ∙ ap (λ (l : List ℕ). cond (none p) l (refused_line k)) (f.ends (omega (arith, f.counted)))
      ∙ sym (verdict_end_lem k p out (omega (arith, f.low)))

  module _ (k : ℕ) (s : Ran) (line : List ℕ) (later : List (List ℕ)) (f : From n k s (line ∷ later) out) where
    got_other : is_call n line ≡ false → got s (line ∷ later) p ≡ wanted n k (line ∷ later) p out
    got_other e =
        let here = other_ended s high f.low f.at_line (cut line) (cut_other (is_call n) (form_short n high) line e) in
        refused_stays (line_ended s (cut line)) later (none p) k (omega (arith, f.low)) here
        ∙ sym (rw e (verdict_false k (map (is_call n) later ++ unended p) out (omega (arith, f.low))))

    -- After a line of the form.
    abbrev moved : Ran
    moved = ran_one s (line_of n line)

    got_moved : is_call n line ≡ true → got s (line ∷ later) p ≡ got moved later p
    got_moved e =
        ap (λ (t : Ran). got t later p)
        (ap (line_ended s) (cut_whole (is_call n) (form_short n high) line e) ∙ call_ended s high f.low f.at_line line e)

    wanted_moved : is_call n line ≡ true → wanted n k (line ∷ later) p out ≡ wanted n (k + 1) later p out
    wanted_moved e = rw e (verdict_true k (map (is_call n) later ++ unended p) out)

    from_moved : k < last_line → From n (k + 1) moved later out
    from_moved h =
        let next : next_line k ≡ k + 1 = unfold next_line in rw (lt-ltb k last_line h) in
        record {
          low = omega (arith, f.low);
          counted = omega arith;
          at_line = rw next at (next_one s f.at_line (line_of n line));
          ends = λ counts. f.ends (omega arith);
        }

    prints_moved : is_call n line ≡ true → Prints n (k + 1) moved later p out → Prints n k s (line ∷ later) p out
    prints_moved e (inl same) = inl (got_moved e ∙ same ∙ sym (wanted_moved e))
    prints_moved e (inr nothing) = inr (got_moved e ∙ nothing.0, omega (arith, nothing.1))

    -- No number is left for the next line.
    prints_nothing : is_call n line ≡ true → last_line ≤ k → Prints n k s (line ∷ later) p out
    prints_nothing e h =
        let next : next_line k ≡ 0 = unfold next_line in rw (le-ltb k last_line h) in
        let a = next_one s f.at_line (line_of n line) in
        inr (got_moved e ∙ uncounted_stays moved later (none p) (a.line ∙ next) a.refused, omega arith)

    prints_line : (k < last_line → Prints n (k + 1) moved later p out) → Prints n k s (line ∷ later) p out
    prints_line rest = go (test (is_call n line)) (test (ltb k last_line))
      where
        go : (is_call n line ≡ true) ⊎ (is_call n line ≡ false) → (ltb k last_line ≡ true) ⊎ (ltb k last_line ≡ false) → Prints n k s (line ∷ later) p out
        go (inr e) t = inl (got_other e)
        go (inl e) (inl t) = prints_moved e (rest (ltb-true k last_line t))
        go (inl e) (inr t) = prints_nothing e (ltb-false k last_line t)

  pub prints : (lines : List (List ℕ)) (k : ℕ) (s : Ran) → From n k s lines out → Prints n k s lines p out
  prints [] k s f = inl (got_none k s f)
  prints (line ∷ later) k s f = prints_line k s line later f (λ h. prints later (k + 1) (moved k s line later f) (from_moved k s line later f h))
