-- A row of eight entries by its entries, each of which is given by itself: as what `array::from_fn` says of a row is found.
use mathlib.Core.Path.{◌≡◌, sym, ◌∙◌}
use mathlib.Core.List.{List}
use Prim.Native.Nat.{ℕ, zero, suc, ◌<◌}
use native.Mathlib.Omega.{arith}
use lib.ListN.{length, get_or}
use Rattle.model.specs.Lists.{upward}
use Rattle.lists.proofs.Fills.{upward-same, upward_list}

pub eight_upward : (f : ℕ → ℕ) (l : List ℕ) → length l ≡ 8 → get_or l 0 0 ≡ f 0 → get_or l 1 0 ≡ f 1 → get_or l 2 0 ≡ f 2 → get_or l 3 0 ≡ f 3 → get_or l 4 0 ≡ f 4 → get_or l 5 0 ≡ f 5 → get_or l 6 0 ≡ f 6 → get_or l 7 0 ≡ f 7 → l ≡ upward 0 8 f
eight_upward f l long e0 e1 e2 e3 e4 e5 e6 e7 = sym (upward_list 0 l 8 long) ∙ upward-same 8 (λ i. get_or l i 0) f each
  where
    each : (i : ℕ) → i < 8 → get_or l i 0 ≡ f i
    each zero h = e0
    each (suc zero) h = e1
    each (suc (suc zero)) h = e2
    each (suc (suc (suc zero))) h = e3
    each (suc (suc (suc (suc zero)))) h = e4
    each (suc (suc (suc (suc (suc zero))))) h = e5
    each (suc (suc (suc (suc (suc (suc zero)))))) h = e6
    each (suc (suc (suc (suc (suc (suc (suc zero))))))) h = e7
    each (suc (suc (suc (suc (suc (suc (suc (suc i)))))))) h = absurd (let z : ⊥ = omega arith in z)
