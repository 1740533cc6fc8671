-- The figures of the tasks so far.
use mathlib.Core.Path.{◌≡◌}
use lib.ListN.{take}
use Rattle.model.specs.Lists.{numbered}
use Rattle.plan_core.specs.Figures.{figure_at}
use Rattle.plan_core.proofs.table.Table.figures.Given as goal

abbrev pub invariant-loop-i : goal.invariant-loop-i
invariant-loop-i l = l.figures.items ≡ numbered (figure_at l.self.rows.items l.self.stages) 0 (take l.i l.self.rows.items)
