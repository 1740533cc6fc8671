-- The table of long sides by its entries, and a row that is filled up to a station.
use mathlib.Core.Path.{◌≡◌, refl}
use mathlib.Core.Bool.{cond}
use mathlib.Core.List.{◌++◌}
use Prim.Native.Nat.{ℕ, zero, suc, ◌-◌, ◌≤◌, ◌<◌, min}
use native.Mathlib.Omega.{arith}
use lib.ListN.{get_or, replicate}
use lib.Dec.{ltb}
use borrow.Author.Tests.{lt-ltb, le-ltb, ltb-true, ltb-false}
use Rattle.model.specs.Limits.{max_stations}
use Rattle.model.specs.Lists.{upward}
use Rattle.model.specs.Formats.{long_sides, long_side, up_to_station}
use Rattle.lists.proofs.Tests.{either}
use Rattle.admission.specs.Formats.{held_cost}

pub side_at : (format : ℕ) → 1 ≤ format → get_or long_sides (format - 1) 0 ≡ long_side format
unfolding long_side
side_at zero low = absurd (let w : ⊥ = omega arith in w)
side_at (suc i) low = let e : suc i - 1 ≡ i = omega arith in rw e

-- A cost as two bytes hold it.
pub held_in : (c : ℕ) → c < 65536 → held_cost c ≡ c
held_in c h = rw (lt-ltb c 65536 h)

pub held_over : (c : ℕ) → 65536 ≤ c → held_cost c ≡ 65535
held_over c h = rw (le-ltb c 65536 h)

pub held_least : (c : ℕ) → min c 65535 ≡ held_cost c
held_least c = either (λ b. min c 65535 ≡ cond b c 65535) (ltb c 65536) (λ e. omega (arith, ltb-true c 65536 e)) (λ e. omega (arith, ltb-false c 65536 e))

-- The entries of stations 1 to n, and what the row held beyond them.
pub filled : (n : ℕ) (entry : ℕ → ℕ) → n ≤ max_stations → upward 0 n (λ i. entry (suc i)) ++ replicate (max_stations - n) 0 ≡ up_to_station n entry
unfolding up_to_station upward
filled zero entry few = refl
filled (suc zero) entry few = refl
filled (suc (suc zero)) entry few = refl
filled (suc (suc (suc zero))) entry few = refl
filled (suc (suc (suc (suc zero)))) entry few = refl
filled (suc (suc (suc (suc (suc zero))))) entry few = refl
filled (suc (suc (suc (suc (suc (suc zero)))))) entry few = refl
filled (suc (suc (suc (suc (suc (suc (suc zero))))))) entry few = refl
filled (suc (suc (suc (suc (suc (suc (suc (suc zero)))))))) entry few = refl
filled (suc (suc (suc (suc (suc (suc (suc (suc (suc n))))))))) entry few = absurd (let w : ⊥ = omega arith in w)

-- One entry at each station up to n.
pub same_up_to : (n x : ℕ) → upward 0 max_stations (λ i. cond (ltb i n) x 0) ≡ up_to_station n (λ station. x)
unfolding up_to_station upward
same_up_to n x = refl
