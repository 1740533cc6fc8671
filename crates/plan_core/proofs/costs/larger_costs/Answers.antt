use mathlib.Core.Path.{◌≡◌, refl, ap}
use mathlib.Core.List.{List, [], ◌∷◌}
use Prim.Native.Nat.{ℕ, zero, suc, ◌+◌, ◌<◌, max}
use native.Mathlib.Numerals.{add-one}
use native.Mathlib.Omega.{arith}
use lib.ListN.{length, get_or, set, take}
use Rattle.model.specs.Lists.{larger}
use Rattle.plan_core.proofs.costs.larger_costs.Goals as goal

-- An entry that no cost so far has met is as it was.
one_more : (xs ys : List ℕ) (k : ℕ) → k < length xs → k < length ys → set (larger (take k xs) ys) k (max (get_or xs k 0) (get_or (larger (take k xs) ys) k 0)) ≡ larger (take (suc k) xs) ys
unfolding larger
one_more [] ys k p q = absurd (let z : ⊥ = omega arith in z)
one_more (x ∷ xs) [] k p q = absurd (let z : ⊥ = omega arith in z)
one_more (x ∷ xs) (y ∷ ys) zero p q = refl
one_more (x ∷ xs) (y ∷ ys) (suc k) p q = ap (λ (l : List ℕ). max x y ∷ l) (one_more xs ys k (omega arith) (omega arith))

pub loop-k-init : goal.loop-k-init
unfolding larger
loop-k-init c = refl

pub loop-k-preserved : goal.loop-k-preserved
loop-k-preserved c =
    rw (c.max.ensures, c.loop-k.invariant, add-one c.loop-k.k) (one_more c.args.costs.now c.args.maxima.now c.loop-k.k (omega arith) (omega arith))
