-- The records so far are those of a done plan.
use mathlib.Core.Path.{◌≡◌}
use Rattle.plan_core.proofs.lent.Walk.{walked}
use Rattle.plan_core.proofs.lent.plan.Given as goal

abbrev pub invariant-loop-i : goal.invariant-loop-i
invariant-loop-i l = l.tasks ≡ walked l.n l.initial.tasks l.i
