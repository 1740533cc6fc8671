-- Demand 3: the claim about every list of calls, as "The run book" says it. This is the statement; a proof is a value of `Demand3`.
use Rattle.std.specs.Prelude.{◌≡◌, ℕ, ◌≤◌, ◌<◌, length}
use mathlib.Core.List.{List, [], ◌∷◌, Memᴰ}
use Rattle.std.proofs.Math.Option.{none, some}
use Rattle.model.specs.Limits.{max_stations}
use Rattle.model.specs.Bytes.{word}
use Rattle.model.specs.Layout.{image_size, reply_size, reply_ticket_at, reply_tick_at}
use Rattle.model.specs.Calls.{Result, open_call, advance_call, Call, opening, quoting, offering, quoting_format, offering_format, advancing}
use Rattle.model.specs.History.{Entry, History, entry_due, entry_bound, out_at}
use Rattle.model.specs.Runs.{Lent, Run, started, outcome, after_call, after_all, AllAllowed}

-- "if it is out, its out tick is at most acceptance tick + delay sum, and at most its due tick; if it is live, the clock is below both,
-- and an advance made next with a reply of 16 bytes returns 0"
pub record InTime (run : Run) (order : Entry) : Type 0 where
  pub out_in_time : (t : ℕ) → order.out ≡ some t → (t ≤ entry_bound run.history order) × (t ≤ entry_due order)
  pub live_in_time : order.out ≡ none → (run.history.clock < entry_bound run.history order) × (run.history.clock < entry_due order)
  pub can_advance : order.out ≡ none → (reply : List ℕ) → length reply ≡ reply_size → (advance_call run.image reply).number ≡ 0

-- "The reply of each done offer gave the book's ticket; that of each done advance gave the ticket out in the book, or 0, and the book's clock."
abbrev pub Agrees : Call → Result → History → Type 0
Agrees (opening n) result h = Unit {0}
Agrees (quoting block) result h = Unit {0}
Agrees (offering block) result h = result.number ≡ 0 → word result.reply reply_ticket_at ≡ length h.orders
Agrees (quoting_format f) result h = Unit {0}
Agrees (offering_format f) result h = result.number ≡ 0 → word result.reply reply_ticket_at ≡ length h.orders
Agrees advancing result h = result.number ≡ 0 → (word result.reply reply_ticket_at ≡ out_at h.clock h.orders) × (word result.reply reply_tick_at ≡ h.clock)

abbrev pub AllAgree : Run → List Lent → Type 0
AllAgree run [] = Unit {0}
AllAgree run (lent ∷ later) = Agrees lent.call (outcome run lent) (after_call run lent).history × AllAgree (after_call run lent) later

-- "This is a single claim about the list": of the opening call with its arguments, and of the list of calls after it.
pub record Kept (image : List ℕ) (n : ℕ) (reply : List ℕ) (calls : List Lent) : Type 0 where
  pub opened : (open_call image n reply).number ≡ 0
  pub orders : (order : Entry) → Memᴰ order (after_all (started image n reply) calls).history.orders → InTime (after_all (started image n reply) calls) order
  pub replies : AllAgree (started image n reply) calls

-- For any N from 1 to 8, any image buffer and any reply of their lengths lent to the opening call, and any list of calls after it.
abbrev pub Demand3 : Type 0
Demand3 =
    (n : ℕ) → 1 ≤ n → n ≤ max_stations
    → (image : List ℕ) → length image ≡ image_size
    → (reply : List ℕ) → length reply ≡ reply_size
    → (calls : List Lent) → AllAllowed (started image n reply) calls
    → Kept image n reply calls
