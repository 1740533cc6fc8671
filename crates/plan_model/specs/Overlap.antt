-- What `releases` counts. Document 02, (ii): "The planning test should count every release whose stay can overlap, as the worst-case set of source document 000
-- does."
use Rattle.std.specs.Prelude.{◌≡◌, Bool, true, ◌&&◌, List, [], ◌∷◌, ℕ, ◌+◌, ◌≤◌, length, leb, ltb}
use Rattle.model.specs.Lists.{all}
use Rattle.plan_model.specs.Response.{releases}

-- A sheet that was released in tick a stays until its deadline at most: it is out when a + deadline comes. Its stay can overlap the R ticks from some tick on
-- when it was released before they end, and can still be inside after they began.
unfoldable pub overlaps : (R deadline from : ℕ) → ℕ → Bool
overlaps R deadline from a = ltb a (from + R) && ltb from (a + deadline)

-- The releases of a task, in turn: each at least a period after the one before it.
unfoldable pub apart : ℕ → List ℕ → Bool
apart period [] = true
apart period (a ∷ []) = true
apart period (a ∷ b ∷ later) = leb (a + period) b && apart period (b ∷ later)

-- Releases of one task, all of which can overlap the R ticks from some tick on.
pub record Overlapping (R deadline period : ℕ) : Type 0 where
  pub from : ℕ
  pub ticks : List ℕ
  pub a_period_apart : apart period ticks ≡ true
  pub each_overlaps : all (overlaps R deadline from) ticks ≡ true

-- None is left uncounted; and no fewer would do, for there can be so many.
pub record Counted (R deadline period : ℕ) : Type 0 where
  pub no_more : (o : Overlapping R deadline period) → length o.ticks ≤ releases R deadline period
  pub most : Overlapping R deadline period
  pub as_many : length most.ticks ≡ releases R deadline period

abbrev pub EveryOverlap : Type 0
EveryOverlap = (R deadline period : ℕ) → 1 ≤ period → Counted R deadline period
