-- The states that a pipeline comes to, and words for what stands at a station. `Valid` says nothing of stored sums.
use Rattle.std.specs.Prelude.{◌≡◌, ◌⊎◌, ◌≢◌, ℕ, ◌≤◌, ◌<◌, length}
use mathlib.Core.List.{List, [], ◌∷◌, Memᴰ}
use Rattle.model.specs.declared.Order.{Order}
use Rattle.model.specs.declared.Service.{Service}
use Rattle.model.specs.Lists.{at}
use Rattle.model.specs.State.{State, idle}

infix 4 ◌∈◌
abbrev pub ◌∈◌ : {A : Type 0} → A → List A → Type 0
a ∈ l = Memᴰ a l

-- The entry of station k.
abbrev pub serving : State → ℕ → Service
serving s k = at idle s.services k

-- An order's cost and its rank at station k.
abbrev pub cost : Order → ℕ → ℕ
cost o k = at 0 o.costs k

abbrev pub rank : Order → ℕ → ℕ
rank o k = at 0 o.ranks k

-- A live order waits at station k: it is there and not in service.
pub record Waits (s : State) (k : ℕ) (o : Order) : Type 0 where
  pub live : o ∈ s.orders
  pub here : o.station ≡ k
  pub unserved : (serving s k).ticket ≢ o.ticket

-- A station is busy with a live order that is there, with 1 to its cost to go.
pub record Busy (s : State) (k : ℕ) : Type 0 where
  pub order : Order
  pub live : order ∈ s.orders
  pub here : order.station ≡ k
  pub served : (serving s k).ticket ≡ order.ticket
  pub some_left : 1 ≤ (serving s k).left
  pub at_most : (serving s k).left ≤ cost order k

-- A figure, as the ticket, rises along a list.
abbrev pub RisingBy : {A : Type 0} → (A → ℕ) → List A → Type 0
RisingBy key [] = Unit {0}
RisingBy {A} key (a ∷ l) = ((b : A) → b ∈ l → key a < key b) × RisingBy key l

abbrev pub Rising : List Order → Type 0
Rising orders = RisingBy (λ (o : Order). o.ticket) orders

-- An order fits a pipeline of n stations.
pub record Fit (n : ℕ) (o : Order) : Type 0 where
  pub named : 1 ≤ o.ticket
  pub low : 1 ≤ o.station
  pub high : o.station ≤ n
  pub costs : (k : ℕ) → 1 ≤ k → k ≤ n → 1 ≤ cost o k

-- Every station is idle or busy; the live tickets rise, and lie below the next where that is not 0; the live orders fit.
pub record Valid (s : State) : Type 0 where
  pub entries : s.n ≤ length s.services
  pub service : (k : ℕ) → (serving s k ≡ idle) ⊎ Busy s k
  pub rising : Rising s.orders
  pub below : (o : Order) → o ∈ s.orders → (s.next ≡ 0) ⊎ (o.ticket < s.next)
  pub fit : (o : Order) → o ∈ s.orders → Fit s.n o

-- No idle station has a waiting order: so a tick may pass.
abbrev pub Ready : State → Type 0
Ready s = (o : Order) → o ∈ s.orders → 1 ≤ (serving s o.station).ticket
