-- The two timing sentences of document 01, "The course of one tick", for any tick and any station.
use Rattle.std.specs.Prelude.{◌≡◌, ◌≢◌, ℕ, ◌+◌, ◌<◌}
use Rattle.model.specs.declared.Order.{Order}
use Rattle.model.specs.Lists.{at}
use Rattle.model.specs.State.{State, idle}
use Rattle.model.specs.declared.Block.{Block}
use Rattle.model.specs.Admission.{arrival, accept}
use Rattle.model.specs.Tick.{starts, advance}
use Rattle.schedule.specs.Valid.{◌∈◌, serving, cost, Busy, Valid}
use Rattle.schedule.specs.Accept.{Acceptable}

-- "An order accepted at tick 5 may start in the advance from 5 to 6." Where station 1 is idle and nobody is there, it does.
abbrev pub StartsOnceAccepted : Type 0
StartsOnceAccepted =
    (s : State) → Valid s → (b : Block) → Acceptable s b → serving s 1 ≡ idle → ((o : Order) → o ∈ s.orders → o.station ≢ 1)
    → ((arrival s b).accepted ≡ (starts (accept s b)).clock) × (serving (starts (accept s b)) 1 ≡ record { ticket = s.next; left = at 0 b.costs 1 })

-- "One that leaves station 1 as the clock reaches 7 may start at station 2 in the advance from 7 to 8." It has one tick to go at station k in the
-- advance that brings the clock to 7; where it then finds station k + 1 idle, and nobody else is there, it starts in the next advance.
abbrev pub StartsOnceMoved : Type 0
StartsOnceMoved =
    (s : State) → Valid s → (k : ℕ) → k < s.n → (w : Busy (starts s) k) → (serving (starts s) k).left ≡ 1
    → serving (advance s) (k + 1) ≡ idle → ((o : Order) → o ∈ (advance s).orders → o.station ≡ k + 1 → o.ticket ≡ w.order.ticket)
    → ((starts (advance s)).clock ≡ s.clock + 1) × (serving (starts (advance s)) (k + 1) ≡ record { ticket = w.order.ticket; left = cost w.order (k + 1) })
