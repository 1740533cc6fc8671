-- The length of each part of a line, and that a line takes at most 128 bytes where the call's name has at most 8.
use Rattle.std.proofs.Common.{◌≡◌, ℕ, ◌+◌, ◌-◌, ◌<◌, ◌≤◌, Bool, true, false, ltb, ◌++◌, length, refl, ap, arith, length-append, ltb-false, ltb-true, le-ltb, lt-ltb}
use Rattle.text.specs.Ascii.{ascii}
use Rattle.text.specs.Decimal.{decimal}
use Rattle.text.proofs.Decimals.{length-decimal}
use Rattle.trials.specs.CaseLines.{signed, reply_figures, reply_margin}

-- A number of 32 bits has at most ten digits.
ten_digits : (v : ℕ) → v < 4294967296 → length (decimal v) ≤ 10
ten_digits v h = length-decimal 9 v (omega arith)

pub not_below_zero : (bits : ℕ) → bits < 2147483648 → signed bits ≡ decimal bits
unfolding signed
not_below_zero bits h = rw (lt-ltb bits 2147483648 h)

pub below_zero : (bits : ℕ) → 2147483648 ≤ bits → signed bits ≡ ascii "-" ++ decimal (4294967296 - bits)
unfolding signed
below_zero bits h = rw (le-ltb bits 2147483648 h)

pub length-figures : (number ticket tick : ℕ) → length (reply_figures number ticket tick) ≡ 9 + length (decimal number) + (8 + length (decimal ticket)) + (6 + length (decimal tick))
unfolding reply_figures
length-figures number ticket tick = simp length-append

pub length-margin : (bits : ℕ) → length (reply_margin bits) ≡ 8 + length (signed bits)
unfolding reply_margin
length-margin bits = simp length-append

pub figures_room : (number ticket tick : ℕ) → number < 4294967296 → ticket < 4294967296 → tick < 4294967296 → length (reply_figures number ticket tick) ≤ 53
figures_room number ticket tick a b c = omega (arith, length-figures number ticket tick, ten_digits number a, ten_digits ticket b, ten_digits tick c)

signed_room : (bits : ℕ) → bits < 4294967296 → (b : Bool) → ltb bits 2147483648 ≡ b → length (signed bits) ≤ 11
signed_room bits h true e = omega (arith, ap length (not_below_zero bits (ltb-true bits 2147483648 e)), ten_digits bits h)
signed_room bits h false e =
    let g = ltb-false bits 2147483648 e in
    omega (arith, ap length (below_zero bits g), ten_digits (4294967296 - bits) (omega arith))

pub margin_room : (bits : ℕ) → bits < 4294967296 → length (reply_margin bits) ≤ 19
margin_room bits h = omega (arith, length-margin bits, signed_room bits h (ltb bits 2147483648) refl)
