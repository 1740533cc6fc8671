-- `put_field` prints a figure, and a space after it.
use native.Mathlib.Omega.{arith}
use Rattle.plan_model.specs.Output.{field}
use Rattle.text.proofs.Printing.{◌then◌}
use Rattle.plan_text.proofs.output.Lengths.{length-field}
use Rattle.plan_text.proofs.output.put_field.Goals as goal

pub decimal-requires : goal.decimal-requires
decimal-requires c = omega (arith, length-field c.args.v, c.requires)

pub byte-requires : goal.byte-requires
byte-requires c = omega (arith, length-field c.args.v, c.requires, c.decimal.ensures.put.place, c.decimal.ensures.room)

pub returns : goal.returns
unfolding field
returns c = c.decimal.ensures then c.byte.ensures
