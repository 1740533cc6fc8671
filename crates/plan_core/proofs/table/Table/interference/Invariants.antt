-- The shares of the tasks so far.
use mathlib.Core.Path.{◌≡◌}
use Prim.Native.Nat.{◌*◌, ◌≤◌}
use lib.ListN.{take}
use Rattle.plan_core.specs.Response.{interference_of, max_share}
use Rattle.plan_core.proofs.table.Table.interference.Given as goal

abbrev pub invariant-loop-i : goal.invariant-loop-i
invariant-loop-i l = (l.sum ≡ interference_of (take l.i l.self.rows.items) l.t l.r) × (l.sum ≤ max_share * l.i)
