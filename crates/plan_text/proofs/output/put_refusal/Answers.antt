-- `put_refusal` prints the line of a decline: the word, the number and a line feed.
use native.Mathlib.Omega.{arith}
use Rattle.plan_model.specs.Output.{refusal}
use Rattle.text.proofs.Printing.{◌then◌}
use Rattle.plan_text.proofs.output.Lengths.{length-refusal}
use Rattle.plan_text.proofs.output.put_refusal.Goals as goal

pub figure-requires : goal.figure-requires
figure-requires c = rw c.from.ensures (omega (arith, length-refusal c.args.number))

pub byte-requires : goal.byte-requires
byte-requires c =
    let p = rw c.from.ensures at c.figure.ensures in
    omega (arith, length-refusal c.args.number, p.put.place, p.room)

pub returns : goal.returns
unfolding refusal
returns c = (rw c.from.ensures at c.figure.ensures) then c.byte.ensures
