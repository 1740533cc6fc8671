-- The sequence settles at the response from every R of the loop.
use Prim.Native.Nat.{◌-◌}
use Rattle.plan_model.specs.Response.{response_from}
use Rattle.plan_model.proofs.Sequence.{Stands}
use Rattle.plan_core.specs.Response.{step_of}
use Rattle.plan_core.proofs.table.Table.response.Given as goal

abbrev pub invariant-loop-r : goal.invariant-loop-r
invariant-loop-r l =
    Stands (step_of l.self.rows.items l.t l.base) l.deadline l.r (response_from (step_of l.self.rows.items l.t l.base) l.deadline l.base)

abbrev pub decreases-loop-r : goal.decreases-loop-r
decreases-loop-r l = l.deadline - l.r
