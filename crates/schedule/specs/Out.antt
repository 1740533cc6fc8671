-- The ticket out (document 01: "advance gives the ticket out or 0"): of the one order, if any, that an advance takes out.
use Rattle.std.specs.Prelude.{◌≡◌, ◌≢◌, ℕ, ◌≤◌}
use Rattle.model.specs.declared.Order.{Order}
use Rattle.model.specs.State.{State}
use Rattle.model.specs.Tick.{advance, advance_out}
use Rattle.schedule.specs.Valid.{◌∈◌, Valid}

-- An order with the ticket is live.
pub record Has (s : State) (ticket : ℕ) : Type 0 where
  pub order : Order
  pub live : order ∈ s.orders
  pub named : order.ticket ≡ ticket

-- A ticket other than 0 is that of a live order at station N, which is live no more; every other order is still live.
pub record OutAsAsked (s : State) : Type 0 where
  pub was_live : 1 ≤ advance_out s → Has s (advance_out s)
  pub at_last : (o : Order) → o ∈ s.orders → o.ticket ≡ advance_out s → o.station ≡ s.n
  pub is_out : 1 ≤ advance_out s → (o : Order) → o ∈ (advance s).orders → o.ticket ≢ advance_out s
  pub others_live : (o : Order) → o ∈ s.orders → o.ticket ≢ advance_out s → Has (advance s) o.ticket

abbrev pub TicketOutAsAsked : Type 0
TicketOutAsAsked = (s : State) → Valid s → OutAsAsked s
