-- The state that a history stands for: its clock and stations, the next ticket, and its live orders, with sums and maxima over the interference sets of the history.
use Rattle.std.specs.Prelude.{List, map, ℕ, ◌+◌, length}
use Rattle.model.specs.declared.Order.{Order}
use Rattle.model.specs.State.{State}
use Rattle.model.specs.DelayBound.{sum_of, maxima_of}
use Rattle.model.specs.History.{Entry, History, live_orders, entry_due, members}

-- The record of an accepted order, with its sum and maxima over the costs of an interference set (document 01: company).
unfoldable pub record_over : List (List ℕ) → Entry → Order
record_over costs e =
    record {
      ticket = e.ticket;
      accepted = e.accepted;
      due = entry_due e;
      sum = sum_of costs;
      station = e.station;
      ranks = e.block.ranks;
      costs = e.block.costs;
      maxima = maxima_of costs;
    }

unfoldable pub record_of : History → Entry → Order
unfolding record_over
record_of h e = record_over (members h e) e

unfoldable pub state_of : History → State
state_of h = record { n = h.n; clock = h.clock; next = length h.orders + 1; services = h.services; orders = map (record_of h) (live_orders h) }
