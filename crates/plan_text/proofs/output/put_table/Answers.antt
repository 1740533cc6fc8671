-- `put_table` prints the heading, and the lines of the tasks after it.
use native.Mathlib.Omega.{arith}
use Rattle.plan_model.specs.Output.{table}
use Rattle.text.proofs.Printing.{◌then◌}
use Rattle.plan_text.proofs.output.Lengths.{length-table}
use Rattle.plan_text.proofs.output.put_table.Goals as goal

pub bytes-requires : goal.bytes-requires
bytes-requires c = omega (arith, length-table c.args.tasks.now)

pub put_lines-requires : goal.put_lines-requires
put_lines-requires c = omega (arith, length-table c.args.tasks.now, c.bytes.ensures.put.place, c.bytes.ensures.room)

pub returns : goal.returns
unfolding table
returns c = c.bytes.ensures then c.put_lines.ensures
