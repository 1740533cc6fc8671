-- The larger entries so far.
use mathlib.Core.Path.{◌≡◌}
use lib.ListN.{take}
use Rattle.model.specs.Lists.{larger}
use Rattle.plan_core.proofs.costs.larger_costs.Given as goal

abbrev pub invariant-loop-k : goal.invariant-loop-k
invariant-loop-k l = l.maxima ≡ larger (take l.k l.costs) l.initial.maxima
