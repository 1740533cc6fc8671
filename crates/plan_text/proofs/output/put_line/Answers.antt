-- `put_line` prints the line of one task: its number, its base, its response and its verdict.
use native.Mathlib.Omega.{arith}
use Rattle.plan_model.specs.Output.{task_line}
use Rattle.text.proofs.Printing.{◌then◌}
use Rattle.plan_text.proofs.output.Lengths.{length_line}
use Rattle.plan_text.proofs.output.put_line.Goals as goal

pub put_field-requires : goal.put_field-requires
put_field-requires c = omega (arith, length_line c.args.k c.args.t.now)

pub put_field-requires-2 : goal.put_field-requires-2
put_field-requires-2 c = rw c.from.ensures (omega (arith, length_line c.args.k c.args.t.now, c.put_field.ensures.put.place, c.put_field.ensures.room))

pub put_field-requires-3 : goal.put_field-requires-3
put_field-requires-3 c =
    let second = rw c.from.ensures at c.put_field-2.ensures in
    omega (arith, length_line c.args.k c.args.t.now, c.put_field.ensures.put.place, c.put_field.ensures.room, second.put.place, second.room)

pub put_verdict-requires : goal.put_verdict-requires
put_verdict-requires c =
    let second = rw c.from.ensures at c.put_field-2.ensures in
    let third = c.put_field-3.ensures in
    omega (arith, length_line c.args.k c.args.t.now, c.put_field.ensures.put.place, c.put_field.ensures.room, second.put.place, second.room, third.put.place, third.room)

pub returns : goal.returns
unfolding task_line
returns c = ((c.put_field.ensures then (rw c.from.ensures at c.put_field-2.ensures)) then c.put_field-3.ensures) then c.put_verdict.ensures
