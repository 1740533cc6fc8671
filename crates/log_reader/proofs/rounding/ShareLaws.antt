-- The last column has at most 13 digits. By what a quotient is at most.
use mathlib.Core.Bool.{Bool, true, false, cond}
use Prim.Native.Nat.{ℕ, ◌+◌, ◌*◌, ◌%◌, ◌≤◌}
use native.Mathlib.Nat.{div-le_self}
use native.Mathlib.Omega.{arith}
use lib.Dec.{leb}
use Rattle.model.specs.Lists.{is_zero}
use Rattle.log_model.specs.Limits.{most32}
use Rattle.log_model.specs.Rounding.{nearest, thousandths}

at_most_one : (b : Bool) → cond b 1 0 ≤ 1
at_most_one true = omega arith
at_most_one false = omega arith

nearest_at_most : (a b : ℕ) → nearest a b ≤ a + 1
unfolding nearest
nearest_at_most a b = omega (arith, div-le_self a b, at_most_one (leb b (2 * (a % b))))

none_or : (b : Bool) (x most : ℕ) → x ≤ most → cond b 0 x ≤ most
none_or true x most h = omega arith
none_or false x most h = h

pub share_at_most : (busy all : ℕ) → busy ≤ most32 → thousandths busy all ≤ most32 * 1000 + 1
unfolding thousandths
share_at_most busy all h =
    none_or (is_zero all) (nearest (busy * 1000) all) (most32 * 1000 + 1) (omega (arith, nearest_at_most (busy * 1000) all))
