-- The test of the entries so far.
use Rattle.std.proofs.Common.{◌≡◌, take}
use Rattle.model.specs.Lists.{all, within}
use Rattle.model.specs.Limits.{max_cost}
use Rattle.soundness.proofs.rows.costs_in_range.Given as goal

abbrev pub invariant-loop-k : goal.invariant-loop-k
invariant-loop-k l = l.holds ≡ all (within 1 max_cost) (take l.n (take l.k l.cost-items))
