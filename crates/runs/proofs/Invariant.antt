-- The invariant over lists of calls: the image is that of the state that the history stands for, this state is sound, and no more orders were accepted than
-- the clock shows and are live, so that tickets do not end. Every call that demand 3 allows keeps it.
use mathlib.Core.Path.{◌≡◌, refl, sym, ap, subst, ◌∙◌}
use mathlib.Core.Logic.{inl}
use mathlib.Core.Bool.{true}
use mathlib.Core.List.{List, [], ◌∷◌, ◌++◌}
use Prim.Native.Nat.{ℕ, zero, suc, ◌+◌, ◌≤◌, ◌<◌}
use native.Mathlib.Omega.{arith}
use lib.ListN.{length}
use lib.Dec.{ltb}
use borrow.Author.Tests.{eq-eqb}
use Rattle.model.specs.declared.Block.{Block}
use Rattle.model.specs.declared.Order.{Order}
use Rattle.model.specs.Limits.{max_stations, last_tick, last_ticket}
use Rattle.model.specs.State.{State}
use Rattle.model.specs.Tick.{advance}
use Rattle.model.specs.Layout.{image_size, reply_size}
use Rattle.model.specs.Image.{marked, decode, encode}
use Rattle.model.specs.Soundness.{sound}
use Rattle.model.specs.Questions.{Question, ◌else◌, first_no}
use Rattle.model.specs.Admission.{block_of, block_bytes, arrival, joined_by, accept, order_questions}
use Rattle.model.specs.Formats.{FormatOrder, format_block, format_order_questions}
use Rattle.model.specs.Calls.{result, reply_question, length_question, image_questions, open_number, open_call, offer_number, offer_call, format_number, offer_format_call, advance_number, advance_call, Call, opening, quoting, offering, quoting_format, offering_format, advancing, perform}
use Rattle.model.specs.History.{History, begun, accept_in, advance_in, feed}
use Rattle.model.specs.StateOf.{state_of}
use Rattle.model.specs.Runs.{Lent, Run, started, outcome, after_call, after_all, Allowed, AllAllowed}
use Rattle.schedule.specs.Valid.{◌∈◌}
use Rattle.lists.proofs.Questions.{same_after}
use Rattle.delay.specs.Events.{MayAccept}
use Rattle.delay.proofs.Book.{length-accept, same_clock}
use Rattle.delay.proofs.DueTimes as due
use Rattle.image_laws.specs.SoundFacts.{SoundInRange}
use Rattle.image_laws.specs.Usable.{Usable}
use Rattle.image_laws.proofs.Written.{decode-encode, encode-length, encode-marked}
use Rattle.image_laws.proofs.Sound.{gives_sound}
use Rattle.image_laws.proofs.Fresh.{fresh_sound}
use Rattle.call_laws.specs.Considered.{Fitting}
use Rattle.call_laws.specs.OfferExact.{InTime}
use Rattle.call_laws.specs.FormatExact.{Writable}
use Rattle.call_laws.proofs.opens.Exact as opens
use Rattle.call_laws.proofs.offers.Questions.{Decided, eight_ranks, eight_costs}
use Rattle.call_laws.proofs.offers.Times.{time_says, live_say}
use Rattle.call_laws.proofs.offers.Exact.{exact}
use Rattle.call_laws.proofs.offers.Accept.{accept_length, accept_sound}
use Rattle.call_laws.proofs.offers.Kept.{done_image, decline_leaves, quote_gives_offer, format_quote_gives_offer, format_decline_leaves}
use Rattle.call_laws.proofs.formats.Block.{format_read}
use Rattle.call_laws.proofs.formats.Exact.{same_number, format_as_block}
use Rattle.call_laws.proofs.advances.Exact.{advance_numbers}
use Rattle.call_laws.proofs.advances.Advance.{advance_sound}
use Rattle.call_laws.proofs.advances.Kept.{advance_decline_leaves}
use Rattle.call_laws.proofs.advances.Kept as advances
use Rattle.runs.proofs.Out.{advanced_count, advanced_clock, kept_advance, state_advance, one_out}

pub record Invariant (run : Run) : Type 0 where
  pub history : due.Kept run.history
  pub image_is : run.image ≡ encode (state_of run.history)
  pub is_sound : SoundInRange (state_of run.history)
  pub counted : length run.history.orders ≤ run.history.clock + length (state_of run.history).orders

-- ---- what the image of such a run passes
module _ (run : Run) (kept : Invariant run) where
  abbrev here : State
  here = state_of run.history

  pub whole : length run.image ≡ image_size
  whole = ap (λ (l : List ℕ). length l) kept.image_is ∙ encode-length here kept.is_sound.in_range

  is_marked : marked run.image ≡ true
  is_marked = ap marked kept.image_is ∙ encode-marked here

  sound_image : sound run.image ≡ true
  sound_image = ap sound kept.image_is ∙ gives_sound here kept.is_sound

  pub usable : (reply : List ℕ) → length reply ≡ reply_size → Usable run.image reply
  usable reply long = record { reply_whole = long; image_whole = whole; image_marked = is_marked; image_sound = sound_image }

  pub says : decode run.image ≡ here
  says = ap decode kept.image_is ∙ decode-encode here kept.is_sound.in_range

  -- So questions 2 to 4 are out of the way.
  images_pass : (m : List Question) → first_no (image_questions run.image ++ m) ≡ first_no m
  unfolding first_no image_questions length_question
  images_pass m = rw (eq-eqb (length run.image) image_size whole, is_marked, sound_image)

  asks : (rest : State → List Question) (reply : List ℕ) → first_no (reply_question reply ∷ image_questions run.image ++ rest (decode run.image)) ≡ first_no (reply_question reply ∷ rest here)
  asks rest reply =
      same_after (reply_question reply ∷ []) (image_questions run.image ++ rest (decode run.image)) (rest (decode run.image)) (images_pass (rest (decode run.image)))
      ∙ ap (λ (s : State). first_no (reply_question reply ∷ rest s)) says

  pub offer_asks : (block reply : List ℕ) → offer_number run.image block reply ≡ first_no (reply_question reply ∷ order_questions here block)
  unfolding offer_number
  offer_asks block reply = asks (λ s. order_questions s block) reply

  pub format_asks : (f : FormatOrder) (reply : List ℕ) → format_number run.image f reply ≡ first_no (reply_question reply ∷ format_order_questions here f)
  unfolding format_number
  format_asks f reply = asks (λ s. format_order_questions s f) reply

  pub advance_asks : (reply : List ℕ) → advance_number run.image reply ≡ first_no (reply_question reply ∷ (ltb here.clock last_tick else 13) ∷ [])
  unfolding advance_number
  advance_asks reply = asks (λ s. (ltb s.clock last_tick else 13) ∷ []) reply

  -- Tickets are left.
  pub few : length run.history.orders + 1 < last_ticket
  few = unfold state_of in omega (arith, kept.counted, kept.is_sound.facts.clock, kept.is_sound.facts.live)

-- ---- the opening call
module _ (image : List ℕ) (n : ℕ) (reply : List ℕ) (low : 1 ≤ n) (high : n ≤ max_stations) (image_whole : length image ≡ image_size) (reply_whole : length reply ≡ reply_size) where
  asked_done : open_number image n reply ≡ 0
  asked_done = (opens.open_done image n reply).if (record { reply_whole = reply_whole; image_whole = image_whole; n_low = low; n_high = high })

  pub open_done : (open_call image n reply).number ≡ 0
  open_done = unfold open_call result in asked_done

  pub invariant_started : Invariant (started image n reply)
  unfolding started begun
  invariant_started =
      record {
        history = due.kept_begun n low high;
        image_is = opens.opened_image image n reply asked_done ∙ ap encode (due.begun_is n);
        is_sound = subst SoundInRange (due.begun_is n) (fresh_sound n low high).state;
        counted = omega arith;
      }

-- ---- a done offer
module _ (run : Run) (kept : Invariant run) (block reply : List ℕ) (done : offer_number run.image block reply ≡ 0) where
  abbrev b : Block
  b = block_of block

  abbrev h : History
  h = run.history

  abbrev Passes : State → Type 0
  Passes s = Fitting s b × InTime s.n (arrival s b) × ((o : Order) → o ∈ s.orders → InTime s.n (joined_by b o))

  passes : Passes (state_of h)
  passes = subst Passes (says run kept) (let t = (exact run.image block reply).done.only done in (t.0.fitting, t.1, t.2))

  may : MayAccept h b
  unfolding state_of
  may =
      record {
        costs = λ k low high. (passes.0.cost_low k low high, passes.0.cost_high k low high);
        arrival_on_time = (time_says h.n (arrival (state_of h) b)).passes passes.1;
        live_on_time = (live_say (state_of h) b).passes passes.2;
      }

  accepts : accept (state_of h) b ≡ state_of (accept_in b h)
  accepts = due.accept_as b h kept.history.filed (few run kept)

  offered_state : SoundInRange (state_of (accept_in b h))
  offered_state = subst SoundInRange accepts (accept_sound (state_of h) b kept.is_sound passes.0 passes.1 passes.2 (eight_ranks block) (eight_costs block))

  pub invariant_offered : Invariant (record { image = (offer_call run.image block reply).image; history = accept_in b h })
  invariant_offered =
      record {
        history = due.kept_accept b h kept.history may;
        image_is = done_image run.image block reply done ∙ ap (λ (s : State). encode (accept s b)) (says run kept) ∙ ap encode accepts;
        is_sound = offered_state;
        counted = omega (arith, length-accept b h, same_clock b h, kept.counted, ap (λ (s : State). length s.orders) accepts, accept_length (state_of h) b);
      }

-- ---- an order by format: where it is done, late, or would make a live order late, the call is that of the block that it stands for
module _ (run : Run) (kept : Invariant run) (f : FormatOrder) (reply : List ℕ) (decided : Decided (format_number run.image f reply)) where
  pub can_be_written : Writable (decode run.image).n f
  can_be_written = (format_as_block run.image f reply).considered decided

  -- Its bytes.
  abbrev pub written : List ℕ
  written = block_bytes (format_block (decode run.image).n f)

  pub block_is : block_of written ≡ format_block run.history.n f
  unfolding state_of
  block_is = format_read (decode run.image).n f can_be_written ∙ ap (λ (s : State). format_block s.n f) (says run kept)

  pub offer_is : offer_format_call run.image f reply ≡ offer_call run.image written reply
  offer_is = (format_as_block run.image f reply).offers_as_block can_be_written

  pub number_as_block : format_number run.image f reply ≡ offer_number run.image written reply
  number_as_block = same_number run.image f reply can_be_written

-- ---- a done advance
module _ (run : Run) (kept : Invariant run) (reply : List ℕ) (done : advance_number run.image reply ≡ 0) where
  before_last : (state_of run.history).clock < last_tick
  before_last = subst (λ (s : State). s.clock < last_tick) (says run kept) ((advance_numbers run.image reply).done.only done).1

  pub invariant_advanced : Invariant (record { image = (advance_call run.image reply).image; history = advance_in run.history })
  invariant_advanced =
      record {
        history = kept_advance run.history kept.history;
        image_is = advances.done_image run.image reply done ∙ ap (λ (s : State). encode (advance s)) (says run kept) ∙ ap encode (sym (state_advance run.history kept.history));
        is_sound = subst SoundInRange (sym (state_advance run.history kept.history)) (advance_sound (state_of run.history) kept.is_sound before_last);
        counted =
            omega (
              arith,
              advanced_count run.history,
              advanced_clock run.history,
              kept.counted,
              one_out (state_of run.history) kept.history.promise.valid,
              ap (λ (s : State). length s.orders) (state_advance run.history kept.history),
            );
      }

-- ---- every allowed call
module _ (run : Run) (kept : Invariant run) where
  abbrev leaving : List ℕ → History → Run
  leaving image h = record { image = image; history = h }

  -- A call that leaves the image as it was.
  unchanged : {image : List ℕ} → image ≡ run.image → Invariant (leaving image run.history)
  unchanged e = subst (λ (image : List ℕ). Invariant (leaving image run.history)) (sym e) kept

  offered : (block reply : List ℕ) (k : ℕ) → offer_number run.image block reply ≡ k → Invariant (leaving (offer_call run.image block reply).image (feed (offering block) k run.history))
  unfolding feed
  offered block reply zero e = invariant_offered run kept block reply e
  offered block reply (suc k) e = unchanged (decline_leaves run.image block reply (λ z. let w : ◌≡◌ {A = ℕ} (suc k) 0 = sym e ∙ z in omega arith))

  format_offered : (f : FormatOrder) (reply : List ℕ) (k : ℕ) → format_number run.image f reply ≡ k → Invariant (leaving (offer_format_call run.image f reply).image (feed (offering_format f) k run.history))
  unfolding feed
  format_offered f reply zero e =
      let decided : Decided (format_number run.image f reply) = inl e in
      let block = written run kept f reply decided in
      let done = sym (number_as_block run kept f reply decided) ∙ e in
      rw (offer_is run kept f reply decided, ← block_is run kept f reply decided) (invariant_offered run kept block reply done)
  format_offered f reply (suc k) e = unchanged (format_decline_leaves run.image f reply (λ z. let w : ◌≡◌ {A = ℕ} (suc k) 0 = sym e ∙ z in omega arith))

  advanced : (reply : List ℕ) (k : ℕ) → advance_number run.image reply ≡ k → Invariant (leaving (advance_call run.image reply).image (feed advancing k run.history))
  unfolding feed
  advanced reply zero e = invariant_advanced run kept reply e
  advanced reply (suc k) e = unchanged (advance_decline_leaves run.image reply (λ z. let w : ◌≡◌ {A = ℕ} (suc k) 0 = sym e ∙ z in omega arith))

  called : (call : Call) (reply : List ℕ) → Allowed call (perform call run.image reply) → Invariant (leaving (perform call run.image reply).image (feed call (perform call run.image reply).number run.history))
  unfolding perform
  called (opening n) reply other = unfold feed in unchanged (opens.open_decline_leaves run.image n reply (unfold open_call result in other))
  called (quoting block) reply any = unfold feed in unchanged (quote_gives_offer run.image block reply).image_left
  called (offering block) reply any = unfold offer_call result in offered block reply (offer_number run.image block reply) refl
  called (quoting_format f) reply any = unfold feed in unchanged (format_quote_gives_offer run.image f reply).image_left
  called (offering_format f) reply any = unfold offer_format_call result in format_offered f reply (format_number run.image f reply) refl
  called advancing reply any = unfold advance_call result in advanced reply (advance_number run.image reply) refl

  pub invariant_call : (lent : Lent) → Allowed lent.call (outcome run lent) → Invariant (after_call run lent)
  unfolding after_call outcome
  invariant_call lent allowed = called lent.call lent.reply allowed

pub invariant_all : (calls : List Lent) (run : Run) → Invariant run → AllAllowed run calls → Invariant (after_all run calls)
unfolding after_all
invariant_all [] run kept allowed = kept
invariant_all (lent ∷ later) run kept allowed = invariant_all later (after_call run lent) (invariant_call run kept lent allowed.0) allowed.1
