-- The first entries of a row come to no more than as many times the largest that an entry can be.
use Rattle.std.proofs.Common.{ℕ, suc, ◌≤◌, ◌*◌, List, [], ◌∷◌, length, take, get_or, arith}
use native.Mathlib.Nat.{mul-suc}
use Rattle.model.specs.Lists.{total}
use Rattle.lists.proofs.Tests.{total_take}

all_under : (l : List ℕ) (most : ℕ) → ((j : ℕ) → get_or l j 0 ≤ most) → total l ≤ most * length l
unfolding total
all_under [] most each = omega arith
all_under (x ∷ l) most each = omega (arith, each 0, all_under l most (λ j. each (suc j)), mul-suc most (length l))

pub total_under : (l : List ℕ) (most : ℕ) → ((j : ℕ) → get_or l j 0 ≤ most) → (k : ℕ) → total (take k l) ≤ most * length l
total_under l most each k = omega (arith, total_take k l, all_under l most each)
