-- Each place of the row is one of the table.
use Rattle.std.proofs.Common.{rules, arith}
use Rattle.lists.proofs.Arrays.{filled_same}
use Rattle.soundness.specs.RowLimits.{first_places}
use Rattle.soundness.proofs.row_limits.LimitLaws.{table_place}
use Rattle.soundness.proofs.row_limits.first_places.Goals as goal

pub returns : goal.returns
unfolding first_places
returns c = filled_same _ (λ i y q low k. let t = table_place c.args.x c.args.count i (omega arith) low in search rules) c.from_fn.ensures.items
