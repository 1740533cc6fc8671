-- Three printers, one after the other, in a buffer that has room for all of them.
use Rattle.std.proofs.Common.{length, ap, arith, rules}
use Rattle.text.proofs.Printing.{◌then◌, at_front}
use Rattle.trials.specs.Row.{row}
use Rattle.trials.proofs.soak_rows.Values.{values_room}
use Rattle.trials.proofs.soak_rows.put_row.Goals as goal

pub put_values-requires : goal.put_values-requires
put_values-requires c = omega (arith, ap length c.new-text.ensures.bytes, values_room c.args.values (search rules) (λ i. search rules))

pub byte-requires : goal.byte-requires
byte-requires c = omega (arith, ap length c.new-text.ensures.bytes, values_room c.args.values (search rules) (λ i. search rules))

pub returns-clause-put : goal.returns-clause-put
unfolding row
returns-clause-put c = at_front c.new-text.ensures.start c.new-text.ensures.bytes (c.bytes.ensures then c.put_values.ensures then c.byte.ensures)
