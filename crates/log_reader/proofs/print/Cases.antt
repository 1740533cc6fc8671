-- What is printed, by the tests that decide it.
use mathlib.Core.Path.{◌≡◌, sym, ◌∙◌}
use mathlib.Core.Bool.{Bool, true, false, not, ◌||◌}
use mathlib.Core.List.{[]}
use Prim.Native.Nat.{ℕ, min}
use native.Mathlib.Omega.{arith}
use lib.ListN.{length, take}
use lib.Seq.{take_all}
use lib.Dec.{eqb, leb}
use borrow.Author.Tests.{eq-eqb, ne_eqb, leb-true, leb-false}
use Rattle.model.specs.Limits.{max_stations}
use Rattle.model.specs.Lists.{is_zero}
use Rattle.lists.proofs.Tests.{either}
use Rattle.log_model.specs.declared.Reading.{Reading}
use Rattle.log_model.specs.declared.Rerun.{Rerun}
use Rattle.log_model.specs.Output.{refused_line, differs_line, same_lines}
use Rattle.log_model.specs.Reading.{at_end, printed}

module _ (r : Rerun) where
  pub ends_different : (r.differs ≡ 0 → ⊥) → at_end r ≡ differs_line r.differs
  unfolding at_end
  ends_different some = rw (ne_eqb r.differs 0 some)

  pub ends_same : (n : ℕ) → r.differs ≡ 0 → length r.busy ≡ max_stations → n ≡ min r.stations max_stations → at_end r ≡ same_lines r.ticks (take n r.busy)
  unfolding at_end
  ends_same n none long e = rw (eq-eqb r.differs 0 none, first)
    where
      first : take r.stations r.busy ≡ take n r.busy
      first =
          either (λ b. take r.stations r.busy ≡ take n r.busy) (leb r.stations max_stations)
          (λ few. let is : n ≡ r.stations = omega (arith, leb-true r.stations max_stations few) in rw is)
          (λ many.
          let beyond = leb-false r.stations max_stations many in
          take_all r.stations r.busy (omega arith) ∙ sym (take_all n r.busy (omega arith)))

module _ (s : Reading) where
  abbrev pub unfinished : Bool
  unfinished = not (is_zero s.held) || eqb s.rerun.line 1

  pub prints_refused : (s.rerun.refused ≡ 0 → ⊥) → printed s ≡ refused_line s.rerun.refused
  unfolding printed
  prints_refused some = rw (ne_eqb s.rerun.refused 0 some)

  module _ (none : s.rerun.refused ≡ 0) where
    pub prints_nothing : s.rerun.line ≡ 0 → printed s ≡ []
    unfolding printed
    prints_nothing uncounted = rw (eq-eqb s.rerun.refused 0 none, eq-eqb s.rerun.line 0 uncounted)

    module _ (counted : s.rerun.line ≡ 0 → ⊥) where
      pub prints_unfinished : unfinished ≡ true → printed s ≡ refused_line s.rerun.line
      unfolding printed
      prints_unfinished u = rw (eq-eqb s.rerun.refused 0 none, ne_eqb s.rerun.line 0 counted, u)

      pub prints_result : unfinished ≡ false → printed s ≡ at_end s.rerun
      unfolding printed
      prints_result u = rw (eq-eqb s.rerun.refused 0 none, ne_eqb s.rerun.line 0 counted, u)
