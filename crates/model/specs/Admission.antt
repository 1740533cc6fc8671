-- Document 01, "Offer tries the sums as they would be with the newcomer", and questions 5 to 12.
use Rattle.std.specs.Prelude.{cond, ◌&&◌, ◌||◌, List, [], ◌∷◌, ◌++◌, map, ℕ, ◌+◌, length, leb, ltb, eqb, ℤ}
use Rattle.std.specs.Int.Signed.{lt_z}
use Rattle.model.specs.declared.Block.{Block}
use Rattle.model.specs.declared.Order.{Order}
use Rattle.model.specs.Limits.{max_live, max_due_in, default_due_in, last_tick, last_ticket}
use Rattle.model.specs.Lists.{is_zero, largest, larger, concat, all}
use Rattle.model.specs.Bytes.{word, eight_bytes, eight_halves, two_bytes, four_bytes}
use Rattle.model.specs.State.{State}
use Rattle.model.specs.DelayBound.{sum_of, maxima_of, bound_tick, on_time, margin}
use Rattle.model.specs.Layout.{block_size, block_due_in_at, block_ranks_at, block_costs_at}
use Rattle.model.specs.Soundness.{costs_in_range, zero_beyond}
use Rattle.model.specs.Questions.{Question, ◌else◌, Answer, zeros}

-- "An order block is 28 bytes: due-in (4), eight ranks, eight costs (2 each)."
unfoldable pub block_of : List ℕ → Block
block_of s = record { due_in = word s block_due_in_at; ranks = eight_bytes s block_ranks_at; costs = eight_halves s block_costs_at }

-- The bytes that say it.
unfoldable pub block_bytes : Block → List ℕ
block_bytes b = four_bytes b.due_in ++ b.ranks ++ concat (map two_bytes b.costs)

-- "Due tick = tick of acceptance + due-in." A due-in of 0 stands for the default.
unfoldable pub due_of : ℕ → Block → ℕ
due_of accepted b = accepted + cond (is_zero b.due_in) default_due_in b.due_in

-- The arrival (document 01: newcomer): its interference set is itself and the live orders, by their own costs. It waits at station 1.
unfoldable pub arrival : State → Block → Order
arrival s b =
    let members = b.costs ∷ map (λ (o : Order). o.costs) s.orders in
    record {
      ticket = s.next;
      accepted = s.clock;
      due = due_of s.clock b;
      sum = sum_of members;
      station = 1;
      ranks = b.ranks;
      costs = b.costs;
      maxima = maxima_of members;
    }

-- A live order, with the arrival in its interference set.
unfoldable pub joined_by : Block → Order → Order
joined_by b o =
    record {
      ticket = o.ticket;
      accepted = o.accepted;
      due = o.due;
      sum = largest b.costs + o.sum;
      station = o.station;
      ranks = o.ranks;
      costs = o.costs;
      maxima = larger b.costs o.maxima;
    }

unfoldable pub joined_live : State → Block → List Order
joined_live s b = map (joined_by b) s.orders

-- The state with the arrival accepted. After the last ticket none is left.
unfoldable pub accept : State → Block → State
accept s b =
    record {
      n = s.n;
      clock = s.clock;
      next = cond (eqb s.next last_ticket) 0 (s.next + 1);
      services = s.services;
      orders = joined_live s b ++ (arrival s b ∷ []);
    }

-- "the smallest margin over newcomer and live orders"
unfoldable pub smallest : ℤ → List ℤ → ℤ
smallest a [] = a
smallest a (b ∷ l) = let least = smallest b l in cond (lt_z a least) a least

unfoldable pub smallest_margin : State → Block → ℤ
smallest_margin s b = smallest (margin s.n (arrival s b)) (map (margin s.n) (joined_live s b))

-- Question 5 is asked of the bytes; 6 and 7 of the block alone; 8 to 12 of the block at the counter.
unfoldable pub block_length_question : List ℕ → Question
block_length_question bytes = eqb (length bytes) block_size else 5

unfoldable pub block_questions : ℕ → Block → List Question
block_questions n b =
    (costs_in_range n b.costs && zero_beyond n b.costs && zero_beyond n b.ranks else 6)
    ∷ (leb b.due_in max_due_in else 7)
    ∷ []

unfoldable pub state_questions : State → Block → List Question
state_questions s b =
    (leb (due_of s.clock b) last_tick else 8)
    ∷ (leb 1 s.next else 9)
    ∷ (ltb (length s.orders) max_live else 10)
    ∷ (on_time s.n (arrival s b) else 11)
    ∷ (all (on_time s.n) (joined_live s b) else 12)
    ∷ []

unfoldable pub order_questions : State → List ℕ → List Question
order_questions s bytes = let b = block_of bytes in block_length_question bytes ∷ block_questions s.n b ++ state_questions s b

-- What offer gives with its number: "the ticket, acceptance tick + delay sum, and the smallest margin"; 11 and 12 "give that same smallest margin".
unfoldable pub offer_answer : ℕ → State → Block → Answer
offer_answer number s b =
    let done : Answer = record { ticket = s.next; tick = bound_tick s.n (arrival s b); margin = smallest_margin s b } in
    let late : Answer = record { ticket = 0; tick = 0; margin = smallest_margin s b } in
    cond (is_zero number) done (cond (eqb number 11 || eqb number 12) late zeros)

-- "Quote gives what offer would give, with ticket 0"
unfoldable pub quote_answer : ℕ → State → Block → Answer
quote_answer number s b = let a = offer_answer number s b in record { ticket = 0; tick = a.tick; margin = a.margin }
