-- Document 01's "Sound means" after its counts.
use Rattle.std.specs.Prelude.{Bool, List, ℕ, drop}
use Rattle.model.specs.Lists.{all}
use Rattle.model.specs.Soundness.{clauses}

-- Whether none of the clauses after the station count and the live count fails.
unfoldable pub later_hold : List ℕ → Bool
later_hold image = all (λ clause. clause) (drop 2 (clauses image))
