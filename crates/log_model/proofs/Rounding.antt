-- What the rounding means: a is its quotient by b, taken b times, and what is left over, which is less than b; up where twice that is at least b.
use mathlib.Core.Path.{◌≡◌, refl}
use mathlib.Core.Bool.{Bool, true, false, cond}
use Prim.Native.Nat.{ℕ, ◌+◌, ◌*◌, ◌/◌, ◌%◌, ◌≤◌, ◌<◌}
use native.Mathlib.Nat.{add-mul, mod-lt, div-add-mod'}
use native.Mathlib.Omega.{arith}
use lib.Dec.{leb}
use borrow.Author.Tests.{ne_eqb, leb-true, leb-false}
use Rattle.log_model.specs.Rounding.{nearest, thousandths, Rounded, ThousandthsMean}

module _ (a b : ℕ) (some : 1 ≤ b) where
  abbrev quotient : ℕ
  quotient = a / b

  abbrev over : ℕ
  over = a % b

  rounded_by : (up : Bool) → leb b (2 * over) ≡ up → (2 * ((quotient + cond up 1 0) * b) ≤ 2 * a + b) × (2 * a < 2 * ((quotient + cond up 1 0) * b) + b)
  rounded_by true e =
      let whole : quotient * b + over ≡ a = div-add-mod' a b in
      let less : over < b = mod-lt a (omega arith) in
      let more : (quotient + 1) * b ≡ quotient * b + 1 * b = add-mul quotient 1 b in
      let half : b ≤ 2 * over = leb-true b (2 * over) e in
      (omega arith, omega arith)
  rounded_by false e =
      let whole : quotient * b + over ≡ a = div-add-mod' a b in
      let same : (quotient + 0) * b ≡ quotient * b + 0 * b = add-mul quotient 0 b in
      let below : 2 * over < b = leb-false b (2 * over) e in
      (omega arith, omega arith)

  nearest_within : (2 * (nearest a b * b) ≤ 2 * a + b) × (2 * a < 2 * (nearest a b * b) + b)
  unfolding nearest
  nearest_within = rounded_by (leb b (2 * over)) refl

to_nearest : (busy all : ℕ) → 1 ≤ all → Rounded busy all (thousandths busy all)
unfolding thousandths
to_nearest busy all some =
    let within = nearest_within (busy * 1000) all some in
    rw (ne_eqb all 0 (λ e. omega arith)) (record { not_above = within.0; not_below = within.1 })

pub thousandths_mean : ThousandthsMean
unfolding thousandths
thousandths_mean = record { to_nearest = to_nearest; no_tick = λ busy. refl }
