-- Signed numbers by their sign: what is left is about natural numbers. A signed value in a local is `to_z w (of_z w z)`, its bits read back.
use mathlib.Core.Path.{◌≡◌, refl, sym, ap, ◌∙◌, subst}
use mathlib.Core.Bool.{Bool, true, false, true≢false}
use Prim.Native.Nat.{ℕ, suc, ◌+◌, ◌≤◌, ◌<◌}
use native.Mathlib.Omega.{arith}
use lib.IntN.{ℤ, pos, negsuc, nat_abs, ◌+ℤ◌, ◌-ℤ◌}
use lib.Signed.{lt_z, non_neg}
use lib.Dec.{T}
use mir.Syntax.{Width, w32, w64}
use mir.Val.{Fits, SFits, to_z, of_z}
use mir.Facts.{to_z-of_z, sfits_widen}
use borrow.Author.Tests.{le-ltb, ltb-true}
use Rattle.model.specs.Bytes.{bits32}
use Rattle.lists.proofs.Signs.{near}

abbrev pub kept : Width → ℤ → ℤ
kept w z = to_z w (of_z w z)

-- A test of two numbers, read from their bits.
pub order_read : {a b : ℤ} {t : Bool} → SFits w32 a → SFits w32 b → lt_z (kept w32 a) (kept w32 b) ≡ t → lt_z a b ≡ t
order_read {a} {b} fa fb e = sym (ap (λ (z : ℤ). lt_z z b) (to_z-of_z fa)) ∙ (sym (ap (λ (z : ℤ). lt_z (kept w32 a) z) (to_z-of_z fb)) ∙ e)

-- The difference of two ticks that lie near each other, made at 64 bits and cast to 32.
module _ (a b : ℕ) (above : a < b + 2147483648) (below : b ≤ a + 2147483648) where
  pub difference_fits : SFits w32 (pos a -ℤ pos b)
  difference_fits = record { sfits = near a b above below }

  module _ (x y : ℤ) (x-is : x ≡ pos a) (y_is : y ≡ pos b) (short : a < 4294967296) (short' : b < 4294967296) where
    tick_read : (z : ℤ) (n : ℕ) → z ≡ pos n → n < 4294967296 → kept w64 z ≡ pos n
    tick_read z n e h = ap (kept w64) e ∙ to_z-of_z {w = w64} {z = pos n} (record { sfits = omega (arith, h) })

    made : kept w64 x -ℤ kept w64 y ≡ pos a -ℤ pos b
    made = ap (λ (z : ℤ). z -ℤ kept w64 y) (tick_read x a x-is short) ∙ ap (λ (z : ℤ). pos a -ℤ z) (tick_read y b y_is short')

    pub made_fits : SFits w64 (kept w64 x -ℤ kept w64 y)
    made_fits = subst (SFits w64) (sym made) (sfits_widen {w = w32} tt difference_fits)

    made_read : kept w64 (kept w64 x -ℤ kept w64 y) ≡ pos a -ℤ pos b
    made_read = to_z-of_z {w = w64} made_fits ∙ made

    pub cast_fits : SFits w32 (kept w64 (kept w64 x -ℤ kept w64 y))
    cast_fits = subst (SFits w32) (sym made_read) difference_fits

    pub cast_read : kept w32 (kept w64 (kept w64 x -ℤ kept w64 y)) ≡ pos a -ℤ pos b
    cast_read = to_z-of_z {w = w32} cast_fits ∙ made_read

-- Two's complement: below zero, 2 ^ 32 more.
raised : (z : ℤ) → SFits w32 z → lt_z z (pos 0) ≡ true → z +ℤ pos 4294967296 ≡ pos (bits32 z)
raised (pos n) f e = absurd (let w : ⊥ = omega (arith, ltb-true n 0 e) in w)
raised (negsuc n) f e = rw (le-ltb 4294967296 (suc n) (omega (arith, f.sfits))) (ap pos (omega arith))

unraised : (z : ℤ) → lt_z z (pos 0) ≡ false → z ≡ pos (bits32 z)
unraised (pos n) e = refl
unraised (negsuc n) e = absurd (true≢false e)

bits_short : (z : ℤ) → SFits w32 z → bits32 z < 4294967296
bits_short (pos n) f = omega (arith, f.sfits)
bits_short (negsuc n) f = omega arith

-- A signed number that is not below zero, cast to one that has no sign.
pub cast_up : {y : ℤ} (n : ℕ) → y ≡ pos n → n < 4294967296 → T (non_neg y) × Fits w32 (nat_abs y)
cast_up n e h = subst (λ (z : ℤ). T (non_neg z) × Fits w32 (nat_abs z)) (sym e) (tt, record { fits = h })

module _ (z : ℤ) (f : SFits w32 z) where
  pub short : bits32 z < 4294967296
  short = bits_short z f

  pub widened : SFits w64 (kept w32 z)
  widened = subst (SFits w64) (sym (to_z-of_z f)) (sfits_widen {w = w32} tt f)

  pub read_up : lt_z (kept w32 z) (pos 0) ≡ false → kept w32 z ≡ pos (bits32 z)
  read_up e = to_z-of_z f ∙ unraised z (sym (ap (λ (y : ℤ). lt_z y (pos 0)) (to_z-of_z f)) ∙ e)

  module _ (e : lt_z (kept w32 z) (pos 0) ≡ true) where
    sum_is : kept w64 (kept w32 z) +ℤ pos 4294967296 ≡ pos (bits32 z)
    sum_is = ap (λ (y : ℤ). y +ℤ pos 4294967296) (to_z-of_z {w = w64} widened ∙ to_z-of_z f) ∙ raised z f (sym (ap (λ (y : ℤ). lt_z y (pos 0)) (to_z-of_z f)) ∙ e)

    pub sum_fits : SFits w64 (kept w64 (kept w32 z) +ℤ pos 4294967296)
    sum_fits = subst (SFits w64) (sym sum_is) (record { sfits = omega (arith, short) })

    pub sum_read : kept w64 (kept w64 (kept w32 z) +ℤ pos 4294967296) ≡ pos (bits32 z)
    sum_read = to_z-of_z {w = w64} sum_fits ∙ sum_is
