-- What the starts do at a station (document 01, "The course of one tick", 1, and document 02, (v)): in plain terms, not by computing.
use Rattle.std.specs.Prelude.{◌≡◌, ℕ, ◌≤◌}
use Rattle.model.specs.declared.Order.{Order}
use Rattle.model.specs.State.{State, idle}
use Rattle.model.specs.Tick.{starts}
use Rattle.schedule.specs.Valid.{serving, cost, rank, Waits, Busy, Valid}

-- Order o starts at station k: it waits there, its ticks to go are its cost there, and no order that waits there has a smaller rank, nor an equal
-- rank and an earlier due tick, nor both equal and a smaller ticket.
pub record Started (s : State) (k : ℕ) (o : Order) : Type 0 where
  pub waits : Waits s k o
  pub entry : serving (starts s) k ≡ record { ticket = o.ticket; left = cost o k }
  pub smallest_rank : (p : Order) → Waits s k p → rank o k ≤ rank p k
  pub earliest_due : (p : Order) → Waits s k p → rank p k ≡ rank o k → o.due ≤ p.due
  pub smallest_ticket : (p : Order) → Waits s k p → rank p k ≡ rank o k → p.due ≡ o.due → o.ticket ≤ p.ticket

-- An idle station stays idle only when nobody waits there (work-conserving), and else starts one order; a busy one goes on as it was (non-preemptive).
pub data AtStart (s : State) (k : ℕ) : Type 0 where
  rests : serving s k ≡ idle → ((o : Order) → Waits s k o → ⊥) → serving (starts s) k ≡ idle → AtStart s k
  begins : serving s k ≡ idle → (o : Order) → Started s k o → AtStart s k
  goes_on : Busy s k → serving (starts s) k ≡ serving s k → AtStart s k

-- So at every station of every valid state.
abbrev pub StartsAsAsked : Type 0
StartsAsAsked = (s : State) → Valid s → (k : ℕ) → AtStart s k
