-- Demand 2 over runs: after every list of calls that demand 3 speaks of, the image says what the history says (document 01: the book), so that the next call
-- gives what the history's interference sets (document 01: company) give.
use Rattle.std.specs.Prelude.{◌≡◌, ◌⊎◌, ◌≢◌, false, List, ℕ, ◌≤◌, ◌<◌, length, ℤ, pos, ◌-ℤ◌}
use Rattle.std.proofs.Math.Option.{none}
use Rattle.std.specs.Int.Signed.{mag, lt_z}
use Rattle.model.specs.declared.Block.{Block}
use Rattle.model.specs.Limits.{max_stations, max_live, max_cost, max_due_in, last_tick}
use Rattle.model.specs.Lists.{at, part}
use Rattle.model.specs.Bytes.{word, four_bytes, bits32}
use Rattle.model.specs.Layout.{image_size, block_size, reply_size, reply_tick_at, reply_margin_at}
use Rattle.model.specs.Image.{decode, encode}
use Rattle.model.specs.Admission.{block_of, due_of}
use Rattle.model.specs.Formats.{FormatOrder, format_block}
use Rattle.model.specs.Calls.{Result, quote_call, offer_call, quote_format_call, offer_format_call, advance_call}
use Rattle.model.specs.History.{Entry, History, live_orders, entry_due, entry_bound, entering, accept_in}
use Rattle.model.specs.StateOf.{state_of}
use Rattle.model.specs.Runs.{Lent, Run, started, outcome, after_all, AllAllowed}
use Rattle.schedule.specs.Valid.{◌∈◌}
use Rattle.image_laws.specs.Iff.{◌⇔◌}
use Rattle.call_laws.specs.FormatExact.{Readable}

-- "Offer tries the sums as they would be with the newcomer": the history as it would be with the order accepted, and the arrival (document 01: newcomer) in it.
abbrev pub tried : History → Block → History
tried h b = accept_in b h

abbrev pub arriving : History → Block → Entry
arriving h b = entering b h

-- "on time while acceptance tick + delay sum is at most its due tick"
abbrev pub OnTime : History → Entry → Type 0
OnTime h e = entry_bound h e ≤ entry_due e

abbrev pub Late : History → Entry → Type 0
Late h e = entry_due e < entry_bound h e

-- "Margin is due tick minus that total, a whole number that may be below zero."
abbrev pub margin_of : History → Entry → ℤ
margin_of h e = pos (entry_due e) -ℤ pos (entry_bound h e)

-- The questions before 11 that can be answered by "no" in such a list: 1, what is asked before there is a block (5, and of an order by format 19 and 20), 6 to 8
-- and 10.
pub record Considered (Given : Type 0) (h : History) (b : Block) (reply : List ℕ) : Type 0 where
  -- 1. "Is the lent reply 16 bytes?"
  pub reply_whole : length reply ≡ reply_size
  pub given : Given
  -- 6. "Costs of stations 1 to N in range, costs and ranks beyond N zero?"
  pub cost_low : (k : ℕ) → 1 ≤ k → k ≤ h.n → 1 ≤ at 0 b.costs k
  pub cost_high : (k : ℕ) → 1 ≤ k → k ≤ h.n → at 0 b.costs k ≤ max_cost
  pub cost_beyond : (k : ℕ) → h.n < k → at 0 b.costs k ≡ 0
  pub rank_beyond : (k : ℕ) → h.n < k → at 0 b.ranks k ≡ 0
  -- 7. "Due-in 0 to 60,000?" 8. "Due tick at most 4,000,000,000?"
  pub due_in : b.due_in ≤ max_due_in
  pub due_tick : due_of h.clock b ≤ last_tick
  -- 10. "Fewer than 32 live?"
  pub room : length (live_orders h) < max_live

-- A reply's four bytes give the smallest margin over the live orders of a history: one of them has it, and none a smaller one.
pub record Smallest (h : History) (bytes : List ℕ) : Type 0 where
  pub given : ℤ
  pub order : Entry
  pub among : order ∈ live_orders h
  pub attained : given ≡ margin_of h order
  pub least : (e : Entry) → e ∈ live_orders h → lt_z (margin_of h e) given ≡ false
  pub written : bytes ≡ four_bytes (bits32 given)
  pub signed32 : mag given < 2147483648

-- Number, tick and margin of a quote or an offer of a block, by the history alone.
pub record Judged (Given : Type 0) (h : History) (b : Block) (reply : List ℕ) (r : Result) : Type 0 where
  -- 0 exactly when the questions before pass, and with the order accepted every live order is on time.
  pub done : (r.number ≡ 0) ⇔ (Considered Given h b reply × ((e : Entry) → e ∈ live_orders (tried h b) → OnTime (tried h b) e))
  -- 11 exactly when they pass and the arrival is late.
  pub late : (r.number ≡ 11) ⇔ (Considered Given h b reply × Late (tried h b) (arriving h b))
  -- 12 exactly when they pass, the arrival is on time, and some live order would not be.
  pub delaying : (r.number ≡ 12) ⇔ (Considered Given h b reply × OnTime (tried h b) (arriving h b) × (e : Entry) × (e ∈ live_orders (tried h b)) × Late (tried h b) e)
  -- "acceptance tick + delay sum, and the smallest margin over newcomer and live orders"; 11 and 12 "give that same smallest margin".
  pub tick : r.number ≡ 0 → word r.reply reply_tick_at ≡ entry_bound (tried h b) (arriving h b)
  pub margin : (r.number ≡ 0) ⊎ (r.number ≡ 11) ⊎ (r.number ≡ 12) → Smallest (tried h b) (part r.reply reply_margin_at 4)

-- A run in step: the image has live orders, station entries, clock and next ticket of the history, and sums and maxima over its interference sets.
pub record InStep (run : Run) : Type 0 where
  pub image_is : run.image ≡ encode (state_of run.history)
  pub read_back : decode run.image ≡ state_of run.history
  -- So the next quote and the next offer are judged by the history.
  pub quotes : (block reply : List ℕ) → Judged (length block ≡ block_size) run.history (block_of block) reply (quote_call run.image block reply)
  pub offers : (block reply : List ℕ) → Judged (length block ≡ block_size) run.history (block_of block) reply (offer_call run.image block reply)
  -- And those by format, as the block that the order stands for at the history's own N.
  pub format_quotes : (f : FormatOrder) (reply : List ℕ) → Judged (Readable run.history.n f) run.history (format_block run.history.n f) reply (quote_format_call run.image f reply)
  pub format_offers : (f : FormatOrder) (reply : List ℕ) → Judged (Readable run.history.n f) run.history (format_block run.history.n f) reply (offer_format_call run.image f reply)
  -- No call that is made next returns 2, 3, 4 or 9, and advance 13 only where no order is live.
  pub never_2 : (lent : Lent) → (outcome run lent).number ≢ 2
  pub never_3 : (lent : Lent) → (outcome run lent).number ≢ 3
  pub never_4 : (lent : Lent) → (outcome run lent).number ≢ 4
  pub never_9 : (lent : Lent) → (outcome run lent).number ≢ 9
  pub thirteen_alone : (reply : List ℕ) → (advance_call run.image reply).number ≡ 13 → (e : Entry) → e ∈ run.history.orders → e.out ≢ none

-- After every list of calls as demand 3 has them: the list up to any call is one, so this is said of every call of a list.
abbrev pub ByHistory : Type 0
ByHistory =
    (n : ℕ) → 1 ≤ n → n ≤ max_stations
    → (image : List ℕ) → length image ≡ image_size
    → (reply : List ℕ) → length reply ≡ reply_size
    → (calls : List Lent) → AllAllowed (started image n reply) calls
    → InStep (after_all (started image n reply) calls)
