-- The laws of `releases` that the iteration needs: it does not fall as R rises, no R of one tick or more is free of releases, and there are at most R of them;
-- and the thesis's count is never above it.
use Prim.Native.Nat.{ℕ, zero, suc, ◌+◌, ◌-◌, ◌*◌, ◌≤◌}
use native.Mathlib.Nat.{le-mul_of_pos_right, suc-mul}
use native.Mathlib.Omega.{arith}
use Rattle.model.specs.Lists.{rounded_up}
use Rattle.lists.proofs.Rounding.{up_within, up_rises, up_some}
use Rattle.plan_model.specs.Response.{releases}

-- Where R is 0, a release may still be inside: there is at most one.
pub releases_most : (R S d p : ℕ) → 1 ≤ p → d ≤ p → 1 ≤ S → R ≤ S → releases R d p ≤ S
unfolding releases
releases_most R zero d p h short some le = absurd (let z : ⊥ = omega arith in z)
releases_most R (suc s) d p h short some le =
    let m : s ≤ s * p = le-mul_of_pos_right s (omega arith) in
    up_within (R + d - 1) p (suc s) h (rw (suc-mul s p) (omega arith))

pub releases_rise : (R S d p : ℕ) → 1 ≤ p → R ≤ S → releases R d p ≤ releases S d p
unfolding releases
releases_rise R S d p h le = up_rises (R + d - 1) (S + d - 1) p h (omega arith)

pub releases_some : (R d p : ℕ) → 1 ≤ R → 1 ≤ d → 1 ≤ p → 1 ≤ releases R d p
unfolding releases
releases_some R d p r k h = up_some (R + d - 1) p (omega arith) h

pub releases_thesis : (R d p : ℕ) → 1 ≤ d → 1 ≤ p → rounded_up R p ≤ releases R d p
unfolding releases
releases_thesis R d p k h = up_rises R (R + d - 1) p h (omega arith)
