-- Demand 2's starts, of images (document 01, "The course of one tick"): what each done advance does at each station, whose ticket it gives, and the way of each
-- accepted order through the stations. Everything is said of the bytes that the calls are lent and leave.
use Rattle.std.specs.Prelude.{◌≡◌, ◌≢◌, List, [], ◌∷◌, map, ℕ, ◌+◌, ◌<◌, ◌≤◌, length}
use Rattle.model.specs.declared.Order.{Order}
use Rattle.model.specs.Limits.{max_stations}
use Rattle.model.specs.Lists.{at}
use Rattle.model.specs.Bytes.{word}
use Rattle.model.specs.State.{State, idle}
use Rattle.model.specs.Tick.{one_less, starts, advance, advance_out}
use Rattle.model.specs.Layout.{image_size, reply_size, reply_ticket_at}
use Rattle.model.specs.Image.{decode}
use Rattle.model.specs.Admission.{block_of}
use Rattle.model.specs.Calls.{offer_number, offer_call, advance_number, advance_call, perform}
use Rattle.model.specs.Runs.{Lent, started, after_all, Allowed, AllAllowed, during_calls}
use Rattle.schedule.specs.Valid.{◌∈◌, serving, cost, Busy}
use Rattle.schedule.specs.Starts.{AtStart}
use Rattle.schedule.specs.Pass.{pass_to, Passes}
use Rattle.schedule.specs.Out.{OutAsAsked}
use Rattle.schedule.specs.Course.{Course}
use Rattle.image_laws.specs.InRange.{byte_limit, Below}

-- Of every image of bytes.
abbrev pub OfEveryImage : (List ℕ → Type 0) → Type 0
OfEveryImage Says = (image : List ℕ) → Below byte_limit image → Says image

-- Of the image after every list of calls as demand 3 has them: the list up to any call is one, so this is said of every image in between.
abbrev pub AfterEveryList : (List ℕ → Type 0) → Type 0
AfterEveryList Says =
    (n : ℕ) → 1 ≤ n → n ≤ max_stations
    → (image : List ℕ) → length image ≡ image_size
    → (reply : List ℕ) → length reply ≡ reply_size
    → (calls : List Lent) → AllAllowed (started image n reply) calls
    → Says (after_all (started image n reply) calls).image

-- A done advance, from the state that the image says.
pub record TickAsAsked (image reply : List ℕ) (s : State) : Type 0 where
  -- 1. "Each idle station with waiting orders starts the one with the smallest rank there". Document 02, (v): "Equal ranks should go by the earlier due tick, then
  -- by the smaller ticket."
  pub each_starts : (k : ℕ) → AtStart s k
  -- 2 and 3, from the entries that the starts leave: "each order in service has one tick less to go. An order with nothing to go leaves its station".
  pub each_passes : Passes (map one_less (starts s).services) (starts s)
  -- These three are the advance, and the image says the state after it, with the clock up by one.
  pub is_advance : advance s ≡ pass_to (map one_less (starts s).services) (starts s)
  pub says_after : decode (advance_call image reply).image ≡ advance s
  pub clock_after : (decode (advance_call image reply).image).clock ≡ s.clock + 1
  -- "advance gives the ticket out or 0"
  pub ticket_out : OutAsAsked s
  pub ticket_given : word (advance_call image reply).reply reply_ticket_at ≡ advance_out s

abbrev pub TicksAsAsked : List ℕ → Type 0
TicksAsAsked image = (reply : List ℕ) → advance_number image reply ≡ 0 → TickAsAsked image reply (decode image)

-- "An order accepted at tick 5 may start in the advance from 5 to 6." After a done offer to an image whose station 1 is idle, with nobody there, it does.
pub record StartsOnceAccepted (s after : State) (costs : List ℕ) : Type 0 where
  pub same_clock : after.clock ≡ s.clock
  pub starts_at_one : serving (starts after) 1 ≡ record { ticket = s.next; left = at 0 costs 1 }

-- "One that leaves station 1 as the clock reaches 7 may start at station 2 in the advance from 7 to 8." It has one tick to go at station k in a done advance;
-- where it then finds station k + 1 idle, and nobody else is there, it starts in the next.
pub record StartsOnceMoved (s after : State) (k : ℕ) (order : Order) : Type 0 where
  pub next_clock : after.clock ≡ s.clock + 1
  pub starts_at_next : serving (starts after) (k + 1) ≡ record { ticket = order.ticket; left = cost order (k + 1) }

pub record TimelyAt (image : List ℕ) (s : State) : Type 0 where
  pub accepted :
      (block reply : List ℕ) → offer_number image block reply ≡ 0 → serving s 1 ≡ idle → ((o : Order) → o ∈ s.orders → o.station ≢ 1)
      → StartsOnceAccepted s (decode (offer_call image block reply).image) (block_of block).costs
  pub moved :
      (reply : List ℕ) → advance_number image reply ≡ 0 → (k : ℕ) → k < s.n → (w : Busy (starts s) k) → (serving (starts s) k).left ≡ 1
      → let after = decode (advance_call image reply).image in
      serving after (k + 1) ≡ idle → ((o : Order) → o ∈ after.orders → o.station ≡ k + 1 → o.ticket ≡ w.order.ticket)
      → StartsOnceMoved s after k w.order

abbrev pub Timely : List ℕ → Type 0
Timely image = TimelyAt image (decode image)

-- "lists of these calls: quote, offer, advance, and open where it declines", from an image on.
abbrev pub NotReopened : List ℕ → List Lent → Type 0
NotReopened image [] = Unit {0}
NotReopened image (lent ∷ later) =
    let r = perform lent.call image lent.reply in
    Allowed lent.call r × NotReopened r.image later

-- An order that a done offer accepts has its course from station 1 on, whatever calls come after: exactly its cost in consecutive ticks at each station, at
-- stations 1, 2, .. N in that order, and at no two stations at once.
abbrev pub ServedInFull : List ℕ → Type 0
ServedInFull image =
    (block reply : List ℕ) → offer_number image block reply ≡ 0
    → (later : List Lent) → NotReopened (offer_call image block reply).image later
    → let s = decode image in
    Course s.n s.next (block_of block).costs 1 0 (during_calls (offer_call image block reply).image later)
