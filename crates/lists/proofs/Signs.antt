-- Signed numbers by their sign: what is left is about natural numbers.
use mathlib.Core.Path.{◌≡◌, refl, ap}
use mathlib.Core.Bool.{Bool, true, false, not, cond, ◌||◌}
use Prim.Native.Nat.{ℕ, zero, suc, ◌+◌, ◌-◌, ◌≤◌, ◌<◌}
use native.Mathlib.Omega.{arith}
use lib.IntN.{ℤ, pos, negsuc, ◌-ℤ◌}
use lib.Signed.{mag, lt_z}
use lib.Dec.{leb, ltb}
use borrow.Author.Tests.{le-ltb, le-leb, lt-leb, ltb-true, ltb-false}

-- The difference of two numbers that lie near each other.
module _ (a b : ℕ) (above : a < b + 2147483648) (below : b ≤ a + 2147483648) where
  pub near : mag (pos a -ℤ pos b) < 2147483648
  near = go b refl
    where
      by_test : (c : ℕ) → suc c ≡ b → (t : Bool) → ltb a (suc c) ≡ t → mag (cond t (negsuc (suc c - suc a)) (pos (a - suc c))) < 2147483648
      by_test c q true e = omega (arith, q, above, below, ltb-true a (suc c) e)
      by_test c q false e = omega (arith, q, above, below, ltb-false a (suc c) e)

      go : (c : ℕ) → c ≡ b → mag (pos a -ℤ pos c) < 2147483648
      go zero q = omega (arith, q, above)
      go (suc c) q = by_test c q (ltb a (suc c)) refl

-- A difference is below zero exactly when the second number is the larger.
pub below_zero : (due tick : ℕ) → lt_z (pos due -ℤ pos tick) (pos 0) ≡ not (leb tick due)
below_zero due zero = rw (le-ltb (due + 0) 0 (omega arith), le-leb 0 due (omega arith))
below_zero due (suc t) = go (ltb due (suc t)) refl
  where
    go : (b : Bool) → ltb due (suc t) ≡ b → lt_z (cond b (negsuc (suc t - suc due)) (pos (due - suc t))) (pos 0) ≡ not (leb (suc t) due)
    go true e = rw (lt-leb (suc t) due (ltb-true due (suc t) e))
    go false e = rw (le-leb (suc t) due (ltb-false due (suc t) e), le-ltb (due - suc t) 0 (omega arith))

-- The smaller of two numbers is below zero if one of them is.
pub sign_least : (a b : ℤ) → lt_z (cond (lt_z a b) a b) (pos 0) ≡ (lt_z a (pos 0) || lt_z b (pos 0))
sign_least (pos a) (pos b) = go (ltb a b)
  where
    go : (t : Bool) → lt_z (cond t (pos a) (pos b)) (pos 0) ≡ (ltb a 0 || ltb b 0)
    go true = rw (le-ltb a 0 (omega arith), le-ltb b 0 (omega arith))
    go false = rw (le-ltb a 0 (omega arith), le-ltb b 0 (omega arith))
sign_least (pos a) (negsuc b) = rw (le-ltb a 0 (omega arith))
sign_least (negsuc a) (pos b) = refl
sign_least (negsuc a) (negsuc b) = go (ltb b a)
  where
    go : (t : Bool) → lt_z (cond t (negsuc a) (negsuc b)) (pos 0) ≡ true
    go true = refl
    go false = refl

pub flip : (a t : Bool) → not a ≡ t → a ≡ not t
flip true t e = ap not e
flip false t e = ap not e
