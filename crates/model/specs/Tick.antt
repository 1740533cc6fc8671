-- Document 01, "The course of one tick". It is said of views of orders, so that no stored sum can steer it.
use Rattle.std.specs.Prelude.{Bool, false, cond, ◌&&◌, List, [], ◌∷◌, map, ℕ, ◌+◌, ◌-◌, leb, ltb, eqb}
use Rattle.std.proofs.Math.Option.{Option, none, some}
use Rattle.model.specs.declared.Order.{Order}
use Rattle.model.specs.declared.Service.{Service}
use Rattle.model.specs.Lists.{at, is_zero, only, numbered}
use Rattle.model.specs.State.{State, idle}

-- What the course of a tick sees of a live order.
pub record View : Type 0 where
  pub ticket : ℕ
  pub due : ℕ
  pub station : ℕ
  pub ranks : List ℕ
  pub costs : List ℕ

-- "the smallest rank there". Document 02, (v): "Equal ranks should go by the earlier due tick, then by the smaller ticket." The figures that decide at station k,
-- in this order.
unfoldable pub key_at : ℕ → View → List ℕ
key_at k v = at 0 v.ranks k ∷ v.due ∷ v.ticket ∷ []

-- Lexicographic order: the first figures that differ decide, and the smaller goes first.
unfoldable pub before : List ℕ → List ℕ → Bool
before [] ys = false
before (x ∷ xs) [] = false
before (x ∷ xs) (y ∷ ys) = cond (eqb x y) (before xs ys) (ltb x y)

-- Whether a goes before b at station k.
unfoldable pub precedes : ℕ → View → View → Bool
precedes k a b = before (key_at k a) (key_at k b)

-- Of an order and the choice among the others, the one that goes first.
unfoldable pub better : ℕ → View → Option View → View
better k a none = a
better k a (some b) = cond (precedes k a b) a b

-- The order that goes first of those at station k.
unfoldable pub first : ℕ → List View → Option View
first k [] = none
first k (v ∷ vs) = let rest = first k vs in cond (eqb v.station k) (some (better k v rest)) rest

-- 1. "Each idle station with waiting orders starts the one with the smallest rank there." "a start sets the ticks to go to the cost there"
unfoldable pub entry_of : ℕ → Option View → Service
entry_of k none = idle
entry_of k (some v) = record { ticket = v.ticket; left = at 0 v.costs k }

unfoldable pub start_at : List View → ℕ → Service → Service
start_at views k e = let chosen = entry_of k (first k views) in cond (is_zero e.ticket) chosen e

unfoldable pub start_each : List View → List Service → List Service
start_each views services = numbered (start_at views) 1 services

-- 2. "each order in service has one tick less to go"
unfoldable pub one_less : Service → Service
one_less e = record { ticket = e.ticket; left = e.left - 1 }

-- 3. "An order with nothing to go leaves its station, and waits at the next or, after station N, is out." The station where an order then is,
-- N + 1 when it is out; and the entry that a station then has.
unfoldable pub station_after : List Service → View → ℕ
station_after services v =
    let e = at idle services v.station in
    cond (eqb e.ticket v.ticket && is_zero e.left) (v.station + 1) v.station

unfoldable pub vacate : Service → Service
vacate e = cond (is_zero e.left) idle e

-- "the ticket out or 0": what station N has in service with nothing to go.
unfoldable pub ticket_out : ℕ → List Service → ℕ
ticket_out n services = let e = at idle services n in cond (is_zero e.left) e.ticket 0

-- The three steps on a state.
unfoldable pub view : Order → View
view o = record { ticket = o.ticket; due = o.due; station = o.station; ranks = o.ranks; costs = o.costs }

unfoldable pub move_to : ℕ → Order → Order
move_to k o = record { ticket = o.ticket; accepted = o.accepted; due = o.due; sum = o.sum; station = k; ranks = o.ranks; costs = o.costs; maxima = o.maxima }

unfoldable pub starts : State → State
starts s = record { n = s.n; clock = s.clock; next = s.next; services = start_each (map view s.orders) s.services; orders = s.orders }

-- "The clock goes up by one, and each order in service has one tick less to go."
unfoldable pub tick : State → State
tick s = record { n = s.n; clock = s.clock + 1; next = s.next; services = map one_less s.services; orders = s.orders }

unfoldable pub leave : State → State
leave s =
    record {
      n = s.n;
      clock = s.clock;
      next = s.next;
      services = map vacate s.services;
      orders = only (λ o. leb o.station s.n) (map (λ o. move_to (station_after s.services (view o)) o) s.orders);
    }

-- "Advance does this, in order"
unfoldable pub advance : State → State
advance s = leave (tick (starts s))

unfoldable pub advance_out : State → ℕ
advance_out s = ticket_out s.n (tick (starts s)).services
