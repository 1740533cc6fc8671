-- A quotient rounded up, a / b: how many times b has to be taken to reach a.
use mathlib.Core.Path.{◌≡◌}
use Prim.Native.Nat.{ℕ, zero, suc, ◌+◌, ◌-◌, ◌*◌, ◌/◌, ◌%◌, ◌≤◌, ◌<◌, min}
use Rattle.std.proofs.lemmas.Grind.{div_ceil_times}
use native.Mathlib.Nat.{le-mul_of_pos_right, add-mul, zero-mul, div-lt_iff_lt-mul, le-div_iff_mul-le, div-mul-le_self}
use native.Mathlib.Omega.{arith}
use Rattle.model.specs.Lists.{rounded_up}

-- No more often than is enough, and more often than is not; and what is less often is not enough.
pub up_within : (a b k : ℕ) → 1 ≤ b → a ≤ k * b → rounded_up a b ≤ k
unfolding rounded_up
up_within a b k h enough =
    let p : 0 < b = omega arith in
    let d : (k + 1) * b ≡ k * b + 1 * b = add-mul k 1 b in
    let l : (a + (b - 1)) / b < k + 1 = (div-lt_iff_lt-mul p).1 (omega arith) in
    omega arith

pub up_beyond : (a b k : ℕ) → 1 ≤ b → k * b < a → k < rounded_up a b
unfolding rounded_up
up_beyond a b k h short =
    let p : 0 < b = omega arith in
    let d : (k + 1) * b ≡ k * b + 1 * b = add-mul k 1 b in
    let l : k + 1 ≤ (a + (b - 1)) / b = (le-div_iff_mul-le p).1 (omega arith) in
    omega arith

pub up_short : (a b k : ℕ) → 1 ≤ b → k < rounded_up a b → k * b < a
unfolding rounded_up
up_short a b k h less =
    let p : 0 < b = omega arith in
    let d : (k + 1) * b ≡ k * b + 1 * b = add-mul k 1 b in
    let l : (k + 1) * b ≤ a + (b - 1) = (le-div_iff_mul-le p).0 (omega arith) in
    omega arith

-- It is at most what is divided, does not fall as that rises, and is not 0 where that is not.
pub up_most : (a b : ℕ) → 1 ≤ b → rounded_up a b ≤ a
up_most a b h = up_within a b a h (le-mul_of_pos_right a (omega arith))

pub up_rises : (a a' b : ℕ) → 1 ≤ b → a ≤ a' → rounded_up a b ≤ rounded_up a' b
unfolding rounded_up
up_rises a a' b h le =
    let p : 0 < b = omega arith in
    let m : (a + (b - 1)) / b * b ≤ a + (b - 1) = div-mul-le_self (a + (b - 1)) b in
    (le-div_iff_mul-le p).1 (omega arith)

pub up_some : (a b : ℕ) → 1 ≤ a → 1 ≤ b → 1 ≤ rounded_up a b
up_some a b h k = up_beyond a b 0 k (omega (arith, zero-mul b))

-- The library's division that rounds up.
pub up_ceil : (a b : ℕ) → 1 ≤ b → a / b + min 1 (a % b) ≡ rounded_up a b
up_ceil a b h =
    let t = div_ceil_times a b (omega arith) in
    go (a / b + min 1 (a % b)) t.0 t.1
  where
    go : (d : ℕ) → a ≤ d * b → d * b < a + b → d ≡ rounded_up a b
    go zero p q = omega (arith, up_within a b zero h p)
    go (suc d) p q =
        let e : suc d * b ≡ d * b + b = omega arith in
        omega (arith, up_within a b (suc d) h p, up_beyond a b d h (omega (arith, e)))
