-- The test of the entries so far.
use Rattle.std.proofs.Common.{◌≡◌, take}
use Rattle.model.specs.Lists.{all_stations, within, at}
use Rattle.model.specs.Limits.{max_cost}
use Rattle.soundness.proofs.rows.maxima_in_range.Given as goal

abbrev pub invariant-loop-k : goal.invariant-loop-k
invariant-loop-k l = l.holds ≡ all_stations (λ j m. within (at 0 l.costs j) max_cost m) (take l.n (take l.k l.maximum-items))
