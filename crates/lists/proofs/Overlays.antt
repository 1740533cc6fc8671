-- Numbers laid over each other, bit by bit: 0 where both are 0, and only there.
use mathlib.Core.Path.{◌≡◌}
use mathlib.Core.Bool.{◌&&◌}
use Prim.Native.Nat.{ℕ}
use native.Mathlib.Omega.{arith}
use lib.Bits.{bit_or, or_add_and, and_le_l, and_le_r}
use borrow.Author.Tests.{eqb-true, eqb-false, eq-eqb, ne_eqb}
use Rattle.model.specs.Lists.{is_zero}
use Rattle.lists.proofs.Tests.{either}

pub or_zero : (a b : ℕ) → bit_or a b ≡ 0 → (a ≡ 0) × (b ≡ 0)
or_zero a b h = (omega (arith, h, or_add_and a b, and_le_r a b), omega (arith, h, or_add_and a b, and_le_l a b))

pub zero_or : (a b : ℕ) → a ≡ 0 → b ≡ 0 → bit_or a b ≡ 0
zero_or a b p q = omega (arith, p, q, or_add_and a b)

pub zero_both : (a b : ℕ) → is_zero (bit_or a b) ≡ (is_zero a && is_zero b)
zero_both a b =
    either (λ t. is_zero (bit_or a b) ≡ (t && is_zero b)) (is_zero a)
    (λ p.
    either (λ t. is_zero (bit_or a b) ≡ t) (is_zero b)
    (λ q. eq-eqb (bit_or a b) 0 (zero_or a b (eqb-true a 0 p) (eqb-true b 0 q)))
    (λ q. ne_eqb (bit_or a b) 0 (λ z. eqb-false b 0 q (or_zero a b z).1)))
    (λ p. ne_eqb (bit_or a b) 0 (λ z. eqb-false a 0 p (or_zero a b z).0))
