-- By the sign.
use Rattle.std.proofs.Common.{◌≡◌, ◌-◌, length, ap, arith}
use Rattle.trials.proofs.case_lines.Room.{not_below_zero, below_zero}
use Rattle.trials.proofs.case_lines.put_signed.Goals as goal

pub decimal-requires : goal.decimal-requires
decimal-requires c = rw c.from.ensures (omega (arith, ap length (not_below_zero c.args.bits (omega arith))))

pub returns-then-bits-lt-BELOW_ZERO : goal.returns-then-bits-lt-BELOW_ZERO
returns-then-bits-lt-BELOW_ZERO c = rw (not_below_zero c.args.bits (omega arith), ← c.from.ensures) c.decimal.ensures

pub figure-requires : goal.figure-requires
figure-requires c =
    let b = c.args.bits in
    let e : c.from-2.result ≡ 4294967296 - b = omega arith in
    rw e (omega (arith, ap length (below_zero b (omega arith))))

pub returns : goal.returns
returns c =
    let b = c.args.bits in
    let e : c.from-2.result ≡ 4294967296 - b = omega arith in
    rw (below_zero b (omega arith), ← e) c.figure.ensures
