-- `put_station` prints the line of one station.
use mathlib.Core.Path.{ap}
use Prim.Native.Nat.{ℕ}
use native.Mathlib.Omega.{arith}
use lib.ListN.{length}
use Rattle.text.specs.Decimal.{decimal}
use Rattle.text.proofs.Printing.{◌then◌}
use Rattle.log_model.specs.Output.{station_line}
use Rattle.log_reader.proofs.print.Lengths.{length_station}
use Rattle.log_reader.proofs.print.put_station.Goals as goal

pub decimal-requires : goal.decimal-requires
decimal-requires c =
    let a = c.args in
    omega (arith, length_station a.all a.k a.busy)

pub byte-requires : goal.byte-requires
byte-requires c =
    let a = c.args in
    omega (arith, length_station a.all a.k a.busy)

pub decimal-requires-2 : goal.decimal-requires-2
decimal-requires-2 c =
    let a = c.args in
    omega (arith, length_station a.all a.k a.busy, ap (λ (v : ℕ). length (decimal v)) c.from.ensures)

pub byte-requires-2 : goal.byte-requires-2
byte-requires-2 c =
    let a = c.args in
    omega (arith, length_station a.all a.k a.busy, ap (λ (v : ℕ). length (decimal v)) c.from.ensures)

pub decimal-requires-3 : goal.decimal-requires-3
decimal-requires-3 c =
    let a = c.args in
    omega (arith, length_station a.all a.k a.busy, ap (λ (v : ℕ). length (decimal v)) c.from.ensures, ap (λ (v : ℕ). length (decimal v)) c.thousandths.ensures)

pub byte-requires-3 : goal.byte-requires-3
byte-requires-3 c =
    let a = c.args in
    omega (arith, length_station a.all a.k a.busy, ap (λ (v : ℕ). length (decimal v)) c.from.ensures, ap (λ (v : ℕ). length (decimal v)) c.thousandths.ensures)

pub returns : goal.returns
unfolding station_line
returns c =
    rw (← c.thousandths.ensures, ← c.from.ensures)
    (c.decimal.ensures then c.byte.ensures then c.decimal-2.ensures then c.byte-2.ensures then c.decimal-3.ensures then c.byte-3.ensures)
