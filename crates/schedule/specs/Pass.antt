-- What a tick does at a station (document 01, "The course of one tick", 2 and 3). It is said with early ends: an order in service may have less to go
-- than one tick less. Without early ends it is `tick`, then `leave`.
use Rattle.std.specs.Prelude.{◌≡◌, List, ℕ, ◌+◌, ◌-◌, ◌≤◌, ◌<◌, length}
use Rattle.model.specs.declared.Order.{Order}
use Rattle.model.specs.declared.Service.{Service}
use Rattle.model.specs.Lists.{at}
use Rattle.model.specs.State.{State, idle}
use Rattle.model.specs.Tick.{view, station_after, move_to, leave}
use Rattle.schedule.specs.Valid.{◌∈◌, serving, Waits, Busy, Valid}

-- What a tick may leave of the entries: the same tickets, each with at least one tick less to go.
pub record Ticked (entries ticked : List Service) : Type 0 where
  pub count : length ticked ≡ length entries
  pub tickets : (k : ℕ) → (at idle ticked k).ticket ≡ (at idle entries k).ticket
  pub less : (k : ℕ) → (at idle ticked k).left ≤ (at idle entries k).left - 1

-- The clock goes up by one and the entries become `ticked`; then orders with nothing to go leave.
unfoldable pub pass_to : List Service → State → State
pass_to ticked s = leave (record { n = s.n; clock = s.clock + 1; next = s.next; services = ticked; orders = s.orders })

-- An order after it.
abbrev pub moved : List Service → Order → Order
moved ticked o = move_to (station_after ticked (view o)) o

-- An idle station stays so. A busy one keeps its ticket while ticks are to go, and its order stays there; with nothing to go the order waits at the
-- next station or, after station N, is live no more, and the station is idle.
pub data AtPass (ticked : List Service) (s : State) (k : ℕ) : Type 0 where
  rests : serving s k ≡ idle → serving (pass_to ticked s) k ≡ idle → AtPass ticked s k
  goes_on : (w : Busy s k) → 1 ≤ (at idle ticked k).left → serving (pass_to ticked s) k ≡ at idle ticked k → w.order ∈ (pass_to ticked s).orders → AtPass ticked s k
  ends : (w : Busy s k) → (at idle ticked k).left ≡ 0 → serving (pass_to ticked s) k ≡ idle → (k < s.n → move_to (k + 1) w.order ∈ (pass_to ticked s).orders) → (k ≡ s.n → (o : Order) → o ∈ (pass_to ticked s).orders → o.ticket ≡ w.order.ticket → ⊥) → AtPass ticked s k

-- So at every station of every valid state; and an order that waits stays where it is.
pub record Passes (ticked : List Service) (s : State) : Type 0 where
  pub stations : (k : ℕ) → AtPass ticked s k
  pub waiting : (k : ℕ) (o : Order) → Waits s k o → o ∈ (pass_to ticked s).orders

abbrev pub PassesAsAsked : Type 0
PassesAsAsked = (s : State) → Valid s → (ticked : List Service) → Ticked s.services ticked → Passes ticked s
