-- Document 01, "The run book": the history of a list of calls, kept from the calls alone. It is fed which call it is, its arguments other than
-- image and reply, and the number returned. No stored sum stands in it.
use Rattle.std.specs.Prelude.{Bool, true, false, cond, List, [], ◌∷◌, ◌++◌, map, ℕ, zero, suc, ◌+◌, length, replicate, leb, eqb}
use Rattle.std.proofs.Math.Option.{Option, none, some}
use Rattle.model.specs.declared.Block.{Block}
use Rattle.model.specs.declared.Service.{Service}
use Rattle.model.specs.Limits.{max_stations}
use Rattle.model.specs.Lists.{only, has}
use Rattle.model.specs.State.{idle}
use Rattle.model.specs.Tick.{View, start_each, one_less, station_after, vacate}
use Rattle.model.specs.DelayBound.{sum_of, maxima_of, delay_bound}
use Rattle.model.specs.Admission.{block_of, due_of}
use Rattle.model.specs.Formats.{format_block}
use Rattle.model.specs.Calls.{Call, opening, quoting, offering, quoting_format, offering_format, advancing}

-- An accepted order: its block, the tickets of its interference set (document 01: company), and its out tick once it is out.
pub record Entry : Type 0 where
  pub ticket : ℕ
  pub accepted : ℕ
  pub block : Block
  pub interference : List ℕ
  pub station : ℕ
  pub out : Option ℕ

-- "It holds N, a clock, every order accepted so far, and for each station the ticket in service and the ticks to go."
pub record History : Type 0 where
  pub n : ℕ
  pub clock : ℕ
  pub services : List Service
  pub orders : List Entry

-- "It starts with open's N, clock 0, no orders, all stations idle."
unfoldable pub begun : ℕ → History
begun n = record { n = n; clock = 0; services = replicate max_stations idle; orders = [] }

-- "In the book, live means accepted and not out."
unfoldable pub is_none : Option ℕ → Bool
is_none none = true
is_none (some t) = false

unfoldable pub live : Entry → Bool
unfolding is_none
live e = is_none e.out

unfoldable pub live_orders : History → List Entry
live_orders h = only live h.orders

-- The due tick.
unfoldable pub entry_due : Entry → ℕ
entry_due e = due_of e.accepted e.block

-- The costs of the members of an order's interference set. "Members that are out still count."
unfoldable pub members : History → Entry → List (List ℕ)
members h e = map (λ (m : Entry). m.block.costs) (only (λ (m : Entry). has e.interference m.ticket) h.orders)

-- Acceptance tick + delay bound (document 01: delay sum).
unfoldable pub entry_bound : History → Entry → ℕ
entry_bound h e = e.accepted + delay_bound h.n (sum_of (members h e)) (maxima_of (members h e))

-- "Offer returning 0: the order is accepted. Its ticket is the count of accepted orders, itself included; its acceptance tick is the book's clock.
-- It waits at station 1. Its company is itself and the live orders, and it joins the company of each of these."
unfoldable pub entering : Block → History → Entry
entering b h =
    let ticket = length h.orders + 1 in
    record {
      ticket = ticket;
      accepted = h.clock;
      block = b;
      interference = ticket ∷ map (λ (e : Entry). e.ticket) (live_orders h);
      station = 1;
      out = none;
    }

unfoldable pub joins : ℕ → Entry → Entry
joins ticket e =
    let joined : Entry = record { ticket = e.ticket; accepted = e.accepted; block = e.block; interference = ticket ∷ e.interference; station = e.station; out = e.out } in
    cond (live e) joined e

unfoldable pub accept_in : Block → History → History
accept_in b h =
    let new = entering b h in
    record { n = h.n; clock = h.clock; services = h.services; orders = map (joins new.ticket) h.orders ++ (new ∷ []) }

-- "Advance returning 0: the course of one tick, on the book's own stations and clock."
unfoldable pub entry_view : Entry → View
entry_view e = record { ticket = e.ticket; due = entry_due e; station = e.station; ranks = e.block.ranks; costs = e.block.costs }

unfoldable pub starts_in : History → History
starts_in h = record { n = h.n; clock = h.clock; services = start_each (map entry_view (live_orders h)) h.services; orders = h.orders }

unfoldable pub tick_in : History → History
tick_in h = record { n = h.n; clock = h.clock + 1; services = map one_less h.services; orders = h.orders }

-- "An order that is out stays in the book, with the new clock as its out tick."
unfoldable pub leaves : History → Entry → Entry
leaves h e =
    let k = station_after h.services (entry_view e) in
    let out = cond (leb k h.n) none (some h.clock) in
    let moved : Entry = record { ticket = e.ticket; accepted = e.accepted; block = e.block; interference = e.interference; station = k; out = out } in
    cond (live e) moved e

unfoldable pub leave_in : History → History
leave_in h = record { n = h.n; clock = h.clock; services = map vacate h.services; orders = map (leaves h) h.orders }

unfoldable pub advance_in : History → History
advance_in h = leave_in (tick_in (starts_in h))

-- A call and the number that it returned. "Quote, and any call returning another number: nothing changes." Document 02, (i): "in demand
-- 3's lists and in the run book it counts as that block", the one that it stands for at the book's own N.
unfoldable pub feed : Call → ℕ → History → History
feed (opening n) number h = h
feed (quoting block) number h = h
feed (offering block) zero h = accept_in (block_of block) h
feed (offering block) (suc other) h = h
feed (quoting_format f) number h = h
feed (offering_format f) zero h = accept_in (format_block h.n f) h
feed (offering_format f) (suc other) h = h
feed advancing zero h = advance_in h
feed advancing (suc other) h = h

-- The ticket of the order whose out tick is t, or 0.
unfoldable pub is_at : ℕ → Option ℕ → Bool
is_at t none = false
is_at t (some u) = eqb u t

unfoldable pub out_at : ℕ → List Entry → ℕ
out_at t [] = 0
out_at t (e ∷ es) = let rest = out_at t es in cond (is_at t e.out) e.ticket rest
