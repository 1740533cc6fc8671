-- A decimal is one digit by `decimal_one`, or more by `decimal_more`, whose tenth is a smaller number.
use native.Mathlib.Nat.{div-mul-le_self}
use native.Mathlib.Omega.{arith}
use Rattle.text.proofs.Decimals.{decimal_one, decimal_more, length-one, length_more}
use Rattle.text.proofs.Printing.{◌then◌}
use Rattle.text.proofs.begun.Text.+decimal.Goals as goal

pub byte-requires : goal.byte-requires
byte-requires t c = omega (arith, length-one c.args.n (omega arith))

pub returns-then-n-lt10 : goal.returns-then-n-lt10
returns-then-n-lt10 t c = rw (decimal_one c.args.n (omega arith), ← c.glyph.ensures) c.byte.ensures

pub decimal-requires : goal.decimal-requires
decimal-requires t c = (omega (arith, div-mul-le_self c.args.n 10), omega (arith, length_more c.args.n (omega arith)))

pub byte-requires-2 : goal.byte-requires-2
byte-requires-2 t c = omega (arith, length_more c.args.n (omega arith))

pub returns : goal.returns
returns t c = rw (decimal_more c.args.n (omega arith), ← c.glyph-2.ensures) (c.decimal.ensures then c.byte-2.ensures)
