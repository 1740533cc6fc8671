use native.Mathlib.Omega.{arith}
use Rattle.text.proofs.PrintedRows.{rows_none, rows_more, rows_room, rows_all}
use Rattle.plan_model.specs.Records.{beyond}
use Rattle.plan_model.specs.Output.{task_lines}
use Rattle.plan_text.proofs.output.put_lines.Goals as goal

pub loop-i-init : goal.loop-i-init
loop-i-init c = rows_none _ _ _

pub put_line-requires : goal.put_line-requires
unfolding task_lines
put_line-requires c = rows_room beyond c.loop-i.invariant (omega arith) c.requires

pub loop-i-preserved : goal.loop-i-preserved
loop-i-preserved c = rows_more beyond c.loop-i.invariant c.put_line.ensures (omega arith)

pub returns : goal.returns
unfolding task_lines
returns c = rows_all c.loop-i.invariant (omega arith)
