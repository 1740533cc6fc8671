-- Demand 3: the invariant gives what is said of each accepted order and of each reply, call by call.
use mathlib.Core.Path.{◌≡◌, sym, ap, subst, ◌∙◌}
use mathlib.Core.Logic.{inl}
use mathlib.Core.List.{List, [], ◌∷◌}
use mathlib.Core.Option.{none}
use Prim.Native.Nat.{ℕ, ◌+◌, ◌≤◌, ◌<◌}
use native.Mathlib.Omega.{arith}
use lib.ListN.{length}
use Rattle.model.specs.Limits.{last_tick}
use Rattle.model.specs.Bytes.{word}
use Rattle.model.specs.State.{State}
use Rattle.model.specs.Tick.{advance_out}
use Rattle.model.specs.Layout.{reply_size, reply_ticket_at, reply_tick_at}
use Rattle.model.specs.Image.{decode}
use Rattle.model.specs.Admission.{block_of, offer_answer}
use Rattle.model.specs.Formats.{FormatOrder, format_block}
use Rattle.model.specs.Calls.{result, offer_number, offer_call, format_number, offer_format_call, advance_number, advance_call, Call, opening, quoting, offering, quoting_format, offering_format, advancing, perform}
use Rattle.model.specs.History.{Entry, History, entry_due, entry_bound, accept_in, advance_in, feed, out_at}
use Rattle.model.specs.StateOf.{record_of, state_of}
use Rattle.model.specs.Runs.{Lent, Run, started, outcome, after_call, after_all, AllAllowed}
use Rattle.schedule.specs.Valid.{◌∈◌}
use Rattle.delay.proofs.Book.{length-accept}
use Rattle.delay.proofs.DueTimes.{live_record, none_live, kept_live}
use Rattle.image_laws.specs.InRange.{word_limit}
use Rattle.image_laws.specs.SoundFacts.{SoundInRange}
use Rattle.call_laws.proofs.offers.Questions.{Decided}
use Rattle.call_laws.proofs.advances.Exact.{advance_numbers}
use Rattle.claims.specs.Demand3.{InTime, Agrees, AllAgree, Demand3}
use Rattle.runs.proofs.Out.{advanced_clock, out_in_history}
use Rattle.runs.proofs.Replies.{reply_ticket, advance_gives}
use Rattle.runs.proofs.Invariant.{Invariant, usable, says, few, written, block_is, offer_is, number_as_block, open_done, invariant_started, invariant_call, invariant_all}

-- ---- each accepted order
module _ (run : Run) (kept : Invariant run) where
  -- A live order's due tick is at most the last tick, and the clock is below it.
  pub due_last : (e : Entry) → e ∈ run.history.orders → e.out ≡ none → entry_due e ≤ last_tick
  due_last e m q = unfold record_of in (kept.is_sound.facts.orders (record_of run.history e) (live_record run.history e m (none_live e q))).due_last

  pub ahead : (e : Entry) → e ∈ run.history.orders → e.out ≡ none → (run.history.clock < entry_bound run.history e) × (run.history.clock < entry_due e)
  ahead e m q = kept_live run.history kept.history e m (none_live e q)

  pub advance_done : (reply : List ℕ) → length reply ≡ reply_size → run.history.clock < last_tick → (advance_call run.image reply).number ≡ 0
  unfolding advance_call result state_of
  advance_done reply whole low = (advance_numbers run.image reply).done.if (usable run kept reply whole, rw (says run kept) low)

  pub in_time : (e : Entry) → e ∈ run.history.orders → InTime run e
  in_time e m =
      record {
        out_in_time = λ t q. let w = kept.history.outs e m t q in (w.0, w.1);
        live_in_time = ahead e m;
        can_advance = λ q reply whole. advance_done reply whole (omega (arith, ahead e m q, due_last e m q));
      }

-- ---- each reply
module _ (run : Run) (kept : Invariant run) where
  abbrev h : History
  h = run.history

  offer_reply : (block reply : List ℕ) → offer_number run.image block reply ≡ 0 → word (offer_call run.image block reply).reply reply_ticket_at ≡ (decode run.image).next
  unfolding offer_call result offer_answer
  offer_reply block reply done = rw done (reply_ticket 0 (record { ticket = (decode run.image).next; tick = _; margin = _ }) ticket_fits)
    where
      ticket_fits : (decode run.image).next < word_limit
      ticket_fits = rw (says run kept) (unfold state_of in omega (arith, few run kept))

  offer_agrees : (block reply : List ℕ) → offer_number run.image block reply ≡ 0 → word (offer_call run.image block reply).reply reply_ticket_at ≡ length (accept_in (block_of block) h).orders
  unfolding state_of
  offer_agrees block reply done = offer_reply block reply done ∙ ap (λ (s : State). s.next) (says run kept) ∙ sym (length-accept (block_of block) h)

  module _ (reply : List ℕ) (done : advance_number run.image reply ≡ 0) where
    advance_reply : (word (advance_call run.image reply).reply reply_ticket_at ≡ advance_out (state_of h)) × (word (advance_call run.image reply).reply reply_tick_at ≡ (state_of h).clock + 1)
    advance_reply =
        let is = says run kept in
        let g = advance_gives run.image reply (subst SoundInRange (sym is) kept.is_sound) done in
        (g.0 ∙ ap advance_out is, g.1 ∙ ap (λ (s : State). s.clock + 1) is)

    advance_agrees : (word (advance_call run.image reply).reply reply_ticket_at ≡ out_at (advance_in h).clock (advance_in h).orders) × (word (advance_call run.image reply).reply reply_tick_at ≡ (advance_in h).clock)
    unfolding state_of
    advance_agrees =
        let clock = sym (advanced_clock h) in
        (advance_reply.0 ∙ sym (out_in_history h kept.history) ∙ ap (λ (t : ℕ). out_at t (advance_in h).orders) clock, advance_reply.1 ∙ clock)

  fed_offer : (block : List ℕ) (k : ℕ) → k ≡ 0 → feed (offering block) k h ≡ accept_in (block_of block) h
  unfolding feed
  fed_offer block k e = rw e

  -- An order by format counts as its block.
  format_agrees : (f : FormatOrder) (reply : List ℕ) → format_number run.image f reply ≡ 0 → word (offer_format_call run.image f reply).reply reply_ticket_at ≡ length (accept_in (format_block h.n f) h).orders
  format_agrees f reply done =
      let decided : Decided (format_number run.image f reply) = inl done in
      rw (offer_is run kept f reply decided, ← block_is run kept f reply decided) (offer_agrees (written run kept f reply decided) reply (sym (number_as_block run kept f reply decided) ∙ done))

  fed_format : (f : FormatOrder) (k : ℕ) → k ≡ 0 → feed (offering_format f) k h ≡ accept_in (format_block h.n f) h
  unfolding feed
  fed_format f k e = rw e

  pub fed_advance : (k : ℕ) → k ≡ 0 → feed advancing k h ≡ advance_in h
  unfolding feed
  fed_advance k e = rw e

  agrees : (call : Call) (reply : List ℕ) → Agrees call (perform call run.image reply) (feed call (perform call run.image reply).number h)
  unfolding perform
  agrees (opening n) reply = tt
  agrees (quoting block) reply = tt
  agrees (offering block) reply = λ done. rw (fed_offer block (offer_call run.image block reply).number done) (offer_agrees block reply (unfold offer_call result in done))
  agrees (quoting_format f) reply = tt
  agrees (offering_format f) reply = λ done. rw (fed_format f (offer_format_call run.image f reply).number done) (format_agrees f reply (unfold offer_format_call result in done))
  agrees advancing reply = λ done. rw (fed_advance (advance_call run.image reply).number done) (advance_agrees reply (unfold advance_call result in done))

  pub call_agrees : (lent : Lent) → Agrees lent.call (outcome run lent) (after_call run lent).history
  unfolding after_call outcome
  call_agrees lent = agrees lent.call lent.reply

all_agree : (calls : List Lent) (run : Run) → Invariant run → AllAllowed run calls → AllAgree run calls
all_agree [] run kept allowed = tt
all_agree (lent ∷ later) run kept allowed = (call_agrees run kept lent, all_agree later (after_call run lent) (invariant_call run kept lent allowed.0) allowed.1)

pub demand_3 : Demand3
demand_3 n low high image image_whole reply reply_whole calls allowed =
    let start = invariant_started image n reply low high image_whole reply_whole in
    record {
      opened = open_done image n reply low high image_whole reply_whole;
      orders = in_time (after_all (started image n reply) calls) (invariant_all calls (started image n reply) start allowed);
      replies = all_agree calls (started image n reply) start allowed;
    }
