-- The maxima of a record beside its costs.
use Rattle.std.specs.Prelude.{Bool, List, ℕ, take}
use Rattle.model.specs.Limits.{max_cost}
use Rattle.model.specs.Lists.{at, within, all_stations}

-- "each maximum at least the own cost and at most 6,000", of the two rows: `maxima_in_range` of a record's.
unfoldable pub maxima_hold : ℕ → List ℕ → List ℕ → Bool
maxima_hold n costs maxima = all_stations (λ k m. within (at 0 costs k) max_cost m) (take n maxima)
