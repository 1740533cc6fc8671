-- `releases` counts as many releases as can overlap, and no more.
use mathlib.Core.Path.{◌≡◌, refl}
use mathlib.Core.Bool.{true}
use mathlib.Core.List.{List, [], ◌∷◌}
use Prim.Native.Nat.{ℕ, zero, suc, ◌+◌, ◌-◌, ◌*◌, ◌≤◌, ◌<◌}
use native.Mathlib.Nat.{suc-mul, zero-mul}
use native.Mathlib.Omega.{arith}
use lib.ListN.{length}
use lib.Dec.{leb, ltb}
use borrow.Author.Tests.{leb-true, le-leb, ltb-true, lt-ltb}
use Rattle.model.specs.Lists.{all, upward}
use Rattle.lists.proofs.Tests.{and_both}
use Rattle.lists.proofs.Fills.{length-upward}
use Rattle.lists.proofs.Rounding.{up_beyond, up_short}
use Rattle.plan_model.specs.Response.{releases}
use Rattle.plan_model.specs.Overlap.{overlaps, apart, EveryOverlap}

module _ (R deadline period : ℕ) where
  -- The last of so many releases comes that many periods after the first, and before the R ticks end.
  spread : (from a : ℕ) (later : List ℕ) → apart period (a ∷ later) ≡ true → all (overlaps R deadline from) (a ∷ later) ≡ true → a + length later * period < from + R
  unfolding apart all overlaps
  spread from a [] e o =
      let here = and_both (ltb a (from + R)) (ltb from (a + deadline)) (and_both (overlaps R deadline from a) true o).0 in
      omega (arith, ltb-true a (from + R) here.0, zero-mul period)
  spread from a (b ∷ later) e o =
      let gap = and_both (leb (a + period) b) (apart period (b ∷ later)) e in
      let rest = and_both (overlaps R deadline from a) (all (overlaps R deadline from) (b ∷ later)) o in
      rw (suc-mul (length later) period) (omega (arith, leb-true (a + period) b gap.0, spread from b later gap.1 rest.1))

  -- And the first can still be inside when they begin.
  no_more : 1 ≤ period → (from : ℕ) (ticks : List ℕ) → apart period ticks ≡ true → all (overlaps R deadline from) ticks ≡ true → length ticks ≤ releases R deadline period
  unfolding releases all overlaps
  no_more h from [] e o = omega arith
  no_more h from (a ∷ later) e o =
      let here = (and_both (overlaps R deadline from a) (all (overlaps R deadline from) later) o).0 in
      let inside : from < a + deadline = ltb-true from (a + deadline) (and_both (ltb a (from + R)) (ltb from (a + deadline)) here).1 in
      up_beyond (R + deadline - 1) period (length later) h (omega (arith, spread from a later e o))

  -- So many releases, a period apart from the first on; the R ticks begin when the first of them can last be inside.
  abbrev every : ℕ → ℕ → List ℕ
  every j k = upward j k (λ i. 1 + i * period)

  every_apart : (j k : ℕ) → apart period (every j k) ≡ true
  unfolding apart upward
  every_apart j zero = refl
  every_apart j (suc zero) = refl
  every_apart j (suc (suc k)) = rw (le-leb (1 + j * period + period) (1 + suc j * period) (omega (arith, suc-mul j period)), every_apart (suc j) (suc k))

  every_overlaps : 1 ≤ period → (j k : ℕ) → j + k ≤ releases R deadline period → all (overlaps R deadline deadline) (every j k) ≡ true
  unfolding all overlaps upward releases
  every_overlaps h j zero few = refl
  every_overlaps h j (suc k) few =
      let short = up_short (R + deadline - 1) period j h (omega arith) in
      rw (lt-ltb (1 + j * period) (deadline + R) (omega arith), lt-ltb deadline (1 + j * period + deadline) (omega arith), every_overlaps h (suc j) k (omega arith))

pub every_overlap : EveryOverlap
every_overlap R deadline period h =
    record {
      no_more = λ o. no_more R deadline period h o.from o.ticks o.a_period_apart o.each_overlaps;
      most = record {
        from = deadline;
        ticks = every R deadline period 0 (releases R deadline period);
        a_period_apart = every_apart R deadline period 0 (releases R deadline period);
        each_overlaps = every_overlaps R deadline period h 0 (releases R deadline period) (omega arith);
      };
      as_many = length-upward 0 (releases R deadline period) (λ i. 1 + i * period);
    }
