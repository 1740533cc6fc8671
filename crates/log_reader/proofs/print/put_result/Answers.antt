-- `put_result` prints what the end of a log of the form asks for.
use mathlib.Core.Path.{refl, ap}
use Prim.Native.Nat.{min}
use native.Mathlib.Omega.{arith}
use lib.ListN.{length, take, length-take}
use borrow.Author.Rules.{rules}
use Rattle.model.specs.Limits.{max_stations}
use Rattle.text.proofs.Printing.{◌then◌}
use Rattle.log_model.specs.Output.{differs_line, same_lines}
use Rattle.log_reader.specs.Printed.{station_lines}
use Rattle.log_reader.proofs.print.Cases.{ends_different, ends_same}
use Rattle.log_reader.proofs.print.Lengths.{length-same}
use Rattle.log_reader.proofs.print.put_result.Goals as goal

pub put_numbered-requires : goal.put_numbered-requires
unfolding differs_line
put_numbered-requires c = rw (ends_different c.args.r.now c.if-r-ne0.true) at c.requires

pub returns-then-r-ne0 : goal.returns-then-r-ne0
unfolding differs_line
returns-then-r-ne0 c = rw (ends_different c.args.r.now c.if-r-ne0.true) c.put_numbered.ensures

pub bytes-requires : goal.bytes-requires
bytes-requires c =
    let r = c.args.r.now in
    let n = min r.stations max_stations in
    omega (arith, ap length (ends_same r n c.if-r-ne0.false (search rules) refl), length-same r.ticks (take n r.busy))

pub put_stations-requires : goal.put_stations-requires
put_stations-requires c =
    let r = c.args.r.now in
    let n = c.min.result in
    (omega (arith, length-take n r.busy), omega (arith, ap length (ends_same r n c.if-r-ne0.false (search rules) c.min.ensures), length-same r.ticks (take n r.busy)))

pub returns : goal.returns
unfolding same_lines station_lines
returns c = rw (ends_same c.args.r.now c.min.result c.if-r-ne0.false (search rules) c.min.ensures) (c.bytes.ensures then c.put_stations.ensures)
