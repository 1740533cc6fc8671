-- Ticks and margins of the orders that are tried lie in a small range: a sound live order is on time, costs are at most 6,000, and the rest is their sum.
use mathlib.Core.Path.{◌≡◌, refl}
use mathlib.Core.Logic.{inl, inr}
use mathlib.Core.List.Memᴰ
use mathlib.Core.List.{List, [], ◌∷◌, map}
use Prim.Native.Nat.{ℕ, zero, suc, ◌+◌, ◌-◌, ◌*◌, ◌≤◌, ◌<◌}
use native.Mathlib.Omega.{arith}
use lib.ListN.{length, get_or, take}
use Rattle.model.specs.declared.Block.{Block}
use Rattle.model.specs.declared.Order.{Order}
use Rattle.model.specs.Limits.{max_cost}
use Rattle.model.specs.Lists.{at, total, largest}
use Rattle.model.specs.State.{State}
use Rattle.model.specs.DelayBound.{sum_of, delay_bound, bound_tick}
use Rattle.model.specs.Admission.{arrival, joined_by}
use Rattle.lists.proofs.Tests.{largest_under}
use Rattle.schedule.specs.Valid.{◌∈◌, cost}
use Rattle.schedule.proofs.Laws.{leb_cases}
use Rattle.image_laws.specs.SoundFacts.{maximum, SoundState}
use Rattle.call_laws.specs.Considered.{Fitting}
use Rattle.call_laws.proofs.offers.Accept.{due_bounds, maxima_joined, maxima_own}

total_most : (l : List ℕ) (k : ℕ) → ((i : ℕ) → get_or l i 0 ≤ max_cost) → total (take k l) ≤ max_cost * k
unfolding total
total_most l zero h = omega arith
total_most [] (suc k) h = omega arith
total_most (x ∷ l) (suc k) h = omega (arith, h 0, total_most l k (λ i. h (suc i)))

sum_most : (l : List Order) → ((o : Order) → o ∈ l → largest o.costs ≤ max_cost) → sum_of (map (λ (o : Order). o.costs) l) ≤ max_cost * length l
unfolding sum_of total
sum_most [] h = omega arith
sum_most (o ∷ l) h = omega (arith, h o (Memᴰ.head refl), sum_most l (λ x m. h x (Memᴰ.tail m)))

-- A figure that is in range at stations 1 to n and 0 beyond.
anywhere : (n : ℕ) (f : ℕ → ℕ) → ((k : ℕ) → 1 ≤ k → k ≤ n → f k ≤ max_cost) → ((k : ℕ) → n < k → f k ≡ 0) → (i : ℕ) → f (suc i) ≤ max_cost
anywhere n f in_use beyond i = elim (leb_cases (suc i) n) [ inl t ↦ in_use (suc i) (omega arith) t.1 | inr t ↦ omega (arith, beyond (suc i) t.1) ]

module _ (s : State) (b : Block) (g : SoundState s) (f : Fitting s b) where
  costs_most : (i : ℕ) → at 0 b.costs (suc i) ≤ max_cost
  costs_most = anywhere s.n (λ k. at 0 b.costs k) f.cost_high f.cost_beyond

  top_most : largest b.costs ≤ max_cost
  top_most = largest_under b.costs max_cost costs_most

  live_most : (o : Order) → o ∈ s.orders → (i : ℕ) → cost o (suc i) ≤ max_cost
  live_most o m = anywhere s.n (cost o) (g.orders o m).cost_high (g.orders o m).cost_beyond

  -- An order's bound tick has 32 bits, and lies near its due tick.
  abbrev pub Near : Order → Type 0
  Near o = (bound_tick s.n o < 4294967296) × (o.due < bound_tick s.n o + 2147483648) × (bound_tick s.n o ≤ o.due + 2147483648)

  pub arrival_near : Near (arrival s b)
  unfolding bound_tick delay_bound arrival sum_of total
  arrival_near =
      let sums = sum_most s.orders (λ o m. largest_under o.costs max_cost (live_most o m)) in
      let rows = total_most (arrival s b).maxima (s.n - 1) (λ i. maxima_own s b (suc i) max_cost (costs_most i) (λ o m. live_most o m i)) in
      let due = due_bounds s.clock b f.due_in in
      (omega (arith, top_most, sums, f.room, rows, g.clock, g.n_high), omega (arith, due.1), omega (arith, top_most, sums, f.room, rows, due.0, g.n_high))

  pub joined_near : (o : Order) → o ∈ s.orders → Near (joined_by b o)
  unfolding bound_tick delay_bound joined_by
  joined_near o m =
      let r = g.orders o m in
      let own_most = anywhere s.n (maximum o) r.maximum_high r.maximum_beyond in
      let rows = total_most (joined_by b o).maxima (s.n - 1) (λ i. maxima_joined s b (suc i) max_cost o (costs_most i) (own_most i)) in
      (omega (arith, top_most, rows, r.on_time, r.due_last, g.n_high), omega (arith, r.due_within), omega (arith, top_most, rows, r.on_time, g.n_high))
