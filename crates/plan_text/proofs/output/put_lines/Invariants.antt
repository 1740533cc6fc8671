-- `put_lines` prints a line for each task. The loop has printed those of the first i tasks, as rows.
use Rattle.text.proofs.PrintedRows.{Rows}
use Rattle.plan_model.specs.Output.{task_line}
use Rattle.plan_text.proofs.output.put_lines.Given as goal

abbrev pub invariant-loop-i : goal.invariant-loop-i
invariant-loop-i l = Rows task_line l.tasks l.initial.text l.i l.text
