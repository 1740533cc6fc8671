-- The bound that every step keeps (document 004, theorem 1 and corollary 1, as an inequality on the state). It is said for a test `favoured` on orders: M has
-- the largest costs of favoured orders, K those of the others, at each station. With everybody favoured and K zero it is the bound by the delay bound.
use Rattle.std.specs.Prelude.{◌≡◌, Bool, true, false, cond, map, ℕ, zero, suc, ◌+◌, ◌≤◌, leb}
use Rattle.model.specs.declared.Order.{Order}
use Rattle.model.specs.Lists.{total, largest}
use Rattle.model.specs.State.{State}
use Rattle.schedule.specs.Valid.{◌∈◌, serving, cost, Valid}

-- A figure of the stations, added up over the stations before k.
unfoldable pub up_to : (ℕ → ℕ) → ℕ → ℕ
up_to f zero = 0
up_to f (suc k) = up_to f k + f k

abbrev pub both : (ℕ → ℕ) → (ℕ → ℕ) → ℕ → ℕ
both M K k = M k + K k

-- The work of an order: its largest cost if it is favoured, else 0; and while it is at one of the stations 1 to k.
unfoldable pub weight : (Order → Bool) → Order → ℕ
weight favoured o = cond (favoured o) (largest o.costs) 0

unfoldable pub share : (Order → Bool) → ℕ → Order → ℕ
share favoured k o = cond (leb o.station k) (weight favoured o) 0

-- The work at stations 1 to k.
abbrev pub load : (Order → Bool) → State → ℕ → ℕ
load favoured s k = total (map (share favoured k) s.orders)

-- At station k the clock and the load are within the figure, M and K before k, and: of a favoured order in service what it has had of its cost, and K;
-- of another what it has had; where none is in service, K.
pub record BoundAt (favoured : Order → Bool) (s : State) (figure : ℕ) (M K : ℕ → ℕ) (k : ℕ) : Type 0 where
  pub resting : (serving s k).ticket ≡ 0 → s.clock + load favoured s k ≤ figure + up_to (both M K) k + K k
  pub working : (o : Order) → o ∈ s.orders → favoured o ≡ true → (serving s k).ticket ≡ o.ticket → s.clock + load favoured s k + (serving s k).left ≤ figure + up_to (both M K) k + cost o k + K k
  pub blocked : (o : Order) → o ∈ s.orders → favoured o ≡ false → (serving s k).ticket ≡ o.ticket → s.clock + load favoured s k + (serving s k).left ≤ figure + up_to (both M K) k + cost o k

-- So from station j on, and M and K cover the costs of the live orders.
pub record Bounds (favoured : Order → Bool) (s : State) (figure : ℕ) (M K : ℕ → ℕ) (j : ℕ) : Type 0 where
  pub bound : (k : ℕ) → j ≤ k → k ≤ s.n → BoundAt favoured s figure M K k
  pub covers : (o : Order) → o ∈ s.orders → favoured o ≡ true → (k : ℕ) → cost o k ≤ M k
  pub covers_others : (o : Order) → o ∈ s.orders → favoured o ≡ false → (k : ℕ) → cost o k ≤ K k

-- The invariant: so for every live favoured order from its own station on, with a figure and maxima that may go by the order.
pub record Bounded (favoured : Order → Bool) (figure : Order → ℕ) (M K : Order → ℕ → ℕ) (s : State) : Type 0 where
  pub valid : Valid s
  pub held : (t : Order) → t ∈ s.orders → favoured t ≡ true → Bounds favoured s (figure t) (M t) (K t) t.station
