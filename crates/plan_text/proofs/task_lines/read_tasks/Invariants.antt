-- The lines so far have the form, and their tasks stand at the front of the array.
use lib.ListN.{length}
use Rattle.text.specs.Parts.{line_feed, parts}
use Rattle.plan_text.proofs.task_lines.TableLaws.{Reading}
use Rattle.plan_text.proofs.task_lines.read_tasks.Given as goal

abbrev pub invariant-loop-line : goal.invariant-loop-line
invariant-loop-line l = Reading l.n (parts line_feed l.input) l.tasks l.count (parts line_feed l.left)

abbrev pub decreases-loop-line : goal.decreases-loop-line
decreases-loop-line l = length l.left
