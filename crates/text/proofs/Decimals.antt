-- A decimal is the decimal of a tenth and the last digit. By comparing runs of `digits` with different bounds on the steps: any bound that is at
-- least the number gives the same digits.
use mathlib.Core.Bool.{Bool, true, false}
use mathlib.Core.Path.{◌≡◌, refl}
use mathlib.Core.List.{[], ◌∷◌, ◌++◌}
use mathlib.Core.Logic.{◌⊎◌, inl, inr, ⊎_elim}
use Prim.Native.Nat.{ℕ, zero, suc, ◌+◌, ◌*◌, ◌/◌, ◌%◌, ◌^◌, ◌≤◌, ◌<◌}
use native.Mathlib.Nat.{div-mul-le_self, div-lt_iff_lt-mul, pow-suc}
use native.Mathlib.Omega.{arith}
use lib.Dec.{ltb}
use lib.ListN.{length, length-append}
use borrow.Author.Tests.{lt-ltb, le-ltb, ltb-true, ltb-false}
use Rattle.text.specs.Decimal.{digit, digits, decimal}

digits_one : (k n : ℕ) → digits k true n ≡ digit n ∷ []
unfolding digits
digits_one zero n = refl
digits_one (suc k) n = refl

digits_step : (k m n : ℕ) (small : Bool) → digits k (ltb (n / 10) 10) (n / 10) ≡ digits m (ltb (n / 10) 10) (n / 10) → digits (suc k) small n ≡ digits (suc m) small n
unfolding digits
digits_step k m n true e = refl
digits_step k m n false e = rw e

digits_bound : (k m n : ℕ) → n ≤ k → n ≤ m → digits k (ltb n 10) n ≡ digits m (ltb n 10) n
digits_bound zero m n h g = rw (lt-ltb n 10 (omega arith), digits_one zero n, digits_one m n)
digits_bound (suc k) zero n h g = rw (lt-ltb n 10 (omega arith), digits_one zero n, digits_one (suc k) n)
digits_bound (suc k) (suc m) n h g =
    let q : n / 10 * 10 ≤ n = div-mul-le_self n 10 in
    digits_step k m n (ltb n 10) (digits_bound k m (n / 10) (omega arith) (omega arith))

pub decimal_one : (n : ℕ) → n < 10 → decimal n ≡ digit n ∷ []
unfolding decimal
decimal_one n h = rw (lt-ltb n 10 h) (digits_one n n)

pub decimal_more : (n : ℕ) → 10 ≤ n → decimal n ≡ decimal (n / 10) ++ (digit (n % 10) ∷ [])
unfolding decimal digits
decimal_more zero h = absurd (let w : ⊥ = omega arith in w)
decimal_more (suc n) h =
    let q : suc n / 10 * 10 ≤ suc n = div-mul-le_self (suc n) 10 in
    rw (le-ltb (suc n) 10 h, digits_bound n (suc n / 10) (suc n / 10) (omega arith) (omega arith))

pub length-one : (n : ℕ) → n < 10 → length (decimal n) ≡ 1
length-one n h = rw (decimal_one n h)

pub length_more : (n : ℕ) → 10 ≤ n → length (decimal n) ≡ length (decimal (n / 10)) + 1
length_more n h = rw (decimal_more n h) (length-append (decimal (n / 10)) (digit (n % 10) ∷ []))

side : (n : ℕ) (b : Bool) → ltb n 10 ≡ b → (n < 10) ⊎ (10 ≤ n)
side n true e = inl (ltb-true n 10 e)
side n false e = inr (ltb-false n 10 e)

-- A number below 10 ^ (k + 1) has at most k + 1 digits.
pub length-decimal : (k n : ℕ) → n < 10 ^ suc k → length (decimal n) ≤ suc k
length-decimal zero n h = omega (arith, length-one n h)
length-decimal (suc k) n h =
    ⊎_elim
    (λ l. omega (arith, length-one n l))
    (λ l.
    let e : 10 ^ suc (suc k) ≡ 10 ^ suc k * 10 = pow-suc 10 (suc k) in
    let d : n / 10 < 10 ^ suc k = (div-lt_iff_lt-mul (omega arith)).1 (omega arith) in
    omega (arith, length_more n l, length-decimal k (n / 10) d))
    (side n (ltb n 10) refl)
