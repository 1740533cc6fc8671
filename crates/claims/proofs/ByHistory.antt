-- By the history: the state that the image says is the one that the history stands for, and with an arrival accepted in both the records of the one are the
-- entries of the other. So what offers do with the state is said of the history's interference sets.
use mathlib.Core.Path.{◌≡◌, refl, sym, ap, subst, ◌∙◌}
use mathlib.Core.Logic.{◌⊎◌, inl, inr, ◌≢◌}
use mathlib.Core.Bool.{true}
use mathlib.Core.List.Memᴰ
use mathlib.Core.List.{List, [], ◌∷◌}
use mathlib.Core.Option.{none}
use Prim.Native.Nat.{ℕ, ◌+◌, ◌≤◌}
use native.Mathlib.Omega.{arith}
use lib.ListN.{length, length-map}
use lib.Dec.{ltb}
use borrow.Author.Tests.{eq-eqb, ne_eqb, le-leb}
use Rattle.model.specs.declared.Block.{Block}
use Rattle.model.specs.declared.Order.{Order}
use Rattle.model.specs.Limits.{max_stations, last_tick}
use Rattle.model.specs.Lists.{part, within, all}
use Rattle.model.specs.Bytes.{word, four_bytes, bits32}
use Rattle.model.specs.State.{State}
use Rattle.model.specs.DelayBound.{bound_tick}
use Rattle.model.specs.Layout.{image_size, block_size, reply_tick_at, reply_margin_at}
use Rattle.model.specs.Image.{decode}
use Rattle.model.specs.Questions.{◌else◌, Answer, reply_bytes}
use Rattle.model.specs.Admission.{block_of, due_of, arrival, joined_by, joined_live, smallest_margin, block_length_question, block_questions, state_questions, order_questions, offer_answer, quote_answer}
use Rattle.model.specs.Formats.{FormatOrder, format_questions, format_order_questions}
use Rattle.model.specs.Calls.{Result, result, reply_question, length_question, open_number, open_call, offer_number, offer_call, quote_call, format_number, offer_format_call, quote_format_call, advance_number, advance_call, Call, opening, quoting, offering, quoting_format, offering_format, advancing, perform}
use Rattle.model.specs.History.{Entry, History, live_orders, entry_due, entry_bound, entering, accept_in}
use Rattle.model.specs.StateOf.{record_of, state_of}
use Rattle.model.specs.Runs.{Lent, Run, started, outcome, after_all}
use Rattle.schedule.specs.Valid.{◌∈◌}
use Rattle.schedule.specs.Accept.{accept_next}
use Rattle.schedule.proofs.Accept.{Origin, old, new, origin, old_in, new_in}
use Rattle.delay.proofs.Book.{record_new, state_accept}
use Rattle.lists.proofs.Questions.{spares, never}
use Rattle.call_laws.specs.Considered as asked
use Rattle.image_laws.specs.Iff.{◌⇔◌}
use Rattle.call_laws.specs.OfferExact.{InTime}
use Rattle.call_laws.specs.OfferExact as state
use Rattle.call_laws.specs.FormatExact.{FormatAt}
use Rattle.call_laws.proofs.offers.Questions.{Decided}
use Rattle.call_laws.proofs.offers.Questions as questions
use Rattle.call_laws.proofs.offers.Margins.{smallest_margin_lem}
use Rattle.call_laws.proofs.offers.Exact.{margin_near, exact}
use Rattle.call_laws.proofs.advances.Exact.{advance_numbers}
use Rattle.claims.specs.ByHistory.{tried, arriving, OnTime, Late, margin_of, Considered, Smallest, Judged, InStep, ByHistory}
use Rattle.runs.proofs.Invariant.{Invariant, whole, usable, says, offer_asks, format_asks, advance_asks, invariant_started, invariant_all}
use Rattle.runs.proofs.Replies.{reply_tick}
use Rattle.call_laws.proofs.formats.Exact.{format_as_block}
use Rattle.claims.proofs.Demand3.{due_last, ahead}
use Rattle.claims.proofs.ByFormat.{judged_by_format}

-- ---- numbers that are never given
not_one : {k : ℕ} → Decided k → k ≢ 1
not_one (inl e) z = omega (arith, e, z)
not_one (inr (inl e)) z = omega (arith, e, z)
not_one (inr (inr e)) z = omega (arith, e, z)

abbrev Spared : ℕ → Type 0
Spared k = (k ≡ 2) ⊎ (k ≡ 3) ⊎ (k ≡ 4) ⊎ (k ≡ 9)

spared_low : {k : ℕ} → Spared k → 1 ≤ k
spared_low (inl e) = omega (arith, e)
spared_low (inr (inl e)) = omega (arith, e)
spared_low (inr (inr (inl e))) = omega (arith, e)
spared_low (inr (inr (inr e))) = omega (arith, e)

module _ (run : Run) (kept : Invariant run) where
  abbrev h : History
  h = run.history

  next_left : 1 ≤ (state_of h).next
  unfolding state_of
  next_left = omega arith

  -- The questions of each call that are left to ask spare 2, 3, 4 and 9.
  open_spares : {k : ℕ} → Spared k → (n : ℕ) (reply : List ℕ) → all (spares k) (reply_question reply ∷ length_question run.image ∷ (within 1 max_stations n else 14) ∷ []) ≡ true
  unfolding all spares reply_question length_question
  open_spares (inl e) n reply = rw (e, eq-eqb (length run.image) image_size (whole run kept))
  open_spares (inr (inl e)) n reply = rw e
  open_spares (inr (inr (inl e))) n reply = rw e
  open_spares (inr (inr (inr e))) n reply = rw e

  offer_spares : {k : ℕ} → Spared k → (block reply : List ℕ) → all (spares k) (reply_question reply ∷ order_questions (state_of h) block) ≡ true
  unfolding all spares reply_question order_questions block_length_question block_questions state_questions
  offer_spares (inl e) block reply = rw e
  offer_spares (inr (inl e)) block reply = rw e
  offer_spares (inr (inr (inl e))) block reply = rw e
  offer_spares (inr (inr (inr e))) block reply = rw (e, le-leb 1 (state_of h).next next_left)

  format_spares : {k : ℕ} → Spared k → (f : FormatOrder) (reply : List ℕ) → all (spares k) (reply_question reply ∷ format_order_questions (state_of h) f) ≡ true
  unfolding all spares reply_question format_order_questions format_questions block_questions state_questions
  format_spares (inl e) f reply = rw e
  format_spares (inr (inl e)) f reply = rw e
  format_spares (inr (inr (inl e))) f reply = rw e
  format_spares (inr (inr (inr e))) f reply = rw (e, le-leb 1 (state_of h).next next_left)

  advance_spares : {k : ℕ} → Spared k → (reply : List ℕ) → all (spares k) (reply_question reply ∷ (ltb (state_of h).clock last_tick else 13) ∷ []) ≡ true
  unfolding all spares reply_question
  advance_spares (inl e) reply = rw e
  advance_spares (inr (inl e)) reply = rw e
  advance_spares (inr (inr (inl e))) reply = rw e
  advance_spares (inr (inr (inr e))) reply = rw e

  never_offer : (k : ℕ) → Spared k → (block reply : List ℕ) → offer_number run.image block reply ≢ k
  never_offer k spared block reply e = never k (spared_low spared) (reply_question reply ∷ order_questions (state_of h) block) (offer_spares spared block reply) (sym (offer_asks run kept block reply) ∙ e)

  never_format : (k : ℕ) → Spared k → (f : FormatOrder) (reply : List ℕ) → format_number run.image f reply ≢ k
  never_format k spared f reply e = never k (spared_low spared) (reply_question reply ∷ format_order_questions (state_of h) f) (format_spares spared f reply) (sym (format_asks run kept f reply) ∙ e)

  never_advance : (k : ℕ) → Spared k → (reply : List ℕ) → advance_number run.image reply ≢ k
  never_advance k spared reply e = never k (spared_low spared) (reply_question reply ∷ (ltb (state_of h).clock last_tick else 13) ∷ []) (advance_spares spared reply) (sym (advance_asks run kept reply) ∙ e)

  nevers : (k : ℕ) → Spared k → (call : Call) (reply : List ℕ) → (perform call run.image reply).number ≢ k
  unfolding perform
  nevers k spared (opening n) reply = unfold open_call result open_number in never k (spared_low spared) (reply_question reply ∷ length_question run.image ∷ (within 1 max_stations n else 14) ∷ []) (open_spares spared n reply)
  nevers k spared (quoting block) reply = unfold quote_call result in never_offer k spared block reply
  nevers k spared (offering block) reply = unfold offer_call result in never_offer k spared block reply
  nevers k spared (quoting_format f) reply = unfold quote_format_call result in never_format k spared f reply
  nevers k spared (offering_format f) reply = unfold offer_format_call result in never_format k spared f reply
  nevers k spared advancing reply = unfold advance_call result in never_advance k spared reply

  never_given : (k : ℕ) → Spared k → (lent : Lent) → (outcome run lent).number ≢ k
  unfolding outcome
  never_given k spared lent = nevers k spared lent.call lent.reply

  -- 13 only where no order is live.
  thirteen : (reply : List ℕ) → (advance_call run.image reply).number ≡ 13 → (e : Entry) → e ∈ h.orders → e.out ≢ none
  unfolding advance_call result state_of
  thirteen reply e x m q =
      let ended : h.clock ≡ last_tick = subst (λ (s : State). s.clock ≡ last_tick) (says run kept) ((advance_numbers run.image reply).ended.only e).1 in
      omega (arith, ended, ahead run kept x m q, due_last run kept x m q)

-- ---- an offer or a quote made next
module _ (run : Run) (kept : Invariant run) (block reply : List ℕ) where
  abbrev b : Block
  b = block_of block

  abbrev Given : Type 0
  Given = length block ≡ block_size

  -- The history, the state that it stands for, and the history with the arrival accepted.
  abbrev then : History
  then = tried run.history b

  abbrev s : State
  s = state_of run.history

  -- An order's delay bound and margin by its record are those by its entry.
  on_time_lem : (e : Entry) → InTime s.n (record_of then e) → OnTime then e
  unfolding state_of record_of entry_bound accept_in
  on_time_lem e h = h

  in_time : (e : Entry) → OnTime then e → InTime s.n (record_of then e)
  unfolding state_of record_of entry_bound accept_in
  in_time e h = h

  margin_is : (e : Entry) → state.margin_of s.n (record_of then e) ≡ margin_of then e
  unfolding state_of record_of entry_bound accept_in
  margin_is e = refl

  -- The records of the state with the arrival accepted are those of the live entries.
  accepted_are : (state_of then).orders ≡ (accept_next (length run.history.orders + 2) s b).orders
  accepted_are = ap (λ (x : State). x.orders) (state_accept b run.history kept.history.filed)

  entry_of : (o : Order) → o ∈ (accept_next (length run.history.orders + 2) s b).orders → (e : Entry) × (e ∈ live_orders then) × (record_of then e ≡ o)
  unfolding state_of
  entry_of o m = Memᴰ.of_map (record_of then) (live_orders then) (subst (λ (l : List Order). o ∈ l) (sym accepted_are) m)

  record_in : (e : Entry) → e ∈ live_orders then → record_of then e ∈ (accept_next (length run.history.orders + 2) s b).orders
  unfolding state_of
  record_in e m = subst (λ (l : List Order). record_of then e ∈ l) accepted_are (Memᴰ.map (record_of then) m)

  arrival_record : record_of then (arriving run.history b) ≡ arrival s b
  arrival_record = record_new b run.history kept.history.filed

  -- What is asked before 11, of the image and of the history.
  considered : asked.Considered run.image block reply → Considered Given run.history b reply
  unfolding state_of
  considered c =
      let f : asked.Fitting s b = subst (λ (x : State). asked.Fitting x b) (says run kept) c.fitting in
      record {
        reply_whole = c.usable.reply_whole;
        given = c.block_whole;
        cost_low = f.cost_low;
        cost_high = f.cost_high;
        cost_beyond = f.cost_beyond;
        rank_beyond = f.rank_beyond;
        due_in = f.due_in;
        due_tick = f.due_tick;
        room = omega (arith, f.room, length-map (live_orders run.history) (record_of run.history));
      }

  fitting : Considered Given run.history b reply → asked.Fitting s b
  unfolding state_of
  fitting c =
      record {
        cost_low = c.cost_low;
        cost_high = c.cost_high;
        cost_beyond = c.cost_beyond;
        rank_beyond = c.rank_beyond;
        due_in = c.due_in;
        due_tick = c.due_tick;
        ticket_left = omega arith;
        room = omega (arith, c.room, length-map (live_orders run.history) (record_of run.history));
      }

  reconsidered : Considered Given run.history b reply → asked.Considered run.image block reply
  reconsidered c =
      record {
        usable = usable run kept reply c.reply_whole;
        block_whole = c.given;
        fitting = subst (λ (x : State). asked.Fitting x b) (sym (says run kept)) (fitting c);
      }

  -- What offers do, about the state that the history stands for.
  abbrev ByState : State → Type 0
  ByState x =
      ((offer_number run.image block reply ≡ 0) ⇔ (asked.Considered run.image block reply × InTime x.n (arrival x b) × ((o : Order) → o ∈ x.orders → InTime x.n (joined_by b o))))
      × ((offer_number run.image block reply ≡ 11) ⇔ (asked.Considered run.image block reply × state.Late x.n (arrival x b)))
      × ((offer_number run.image block reply ≡ 12) ⇔ (asked.Considered run.image block reply × InTime x.n (arrival x b) × (o : Order) × (o ∈ x.orders) × state.Late x.n (joined_by b o)))

  by_state : ByState s
  by_state = let x = exact run.image block reply in subst ByState (says run kept) (x.done, x.late, x.delaying)

  -- On time, all of them: the arrival and the live orders that it joins.
  all_on_time : InTime s.n (arrival s b) → ((o : Order) → o ∈ s.orders → InTime s.n (joined_by b o)) → (e : Entry) → e ∈ live_orders then → OnTime then e
  all_on_time own others e m = on_time_lem e (go (origin (length run.history.orders + 2) s b (record_in e m)))
    where
      go : Origin (length run.history.orders + 2) s b (record_of then e) → InTime s.n (record_of then e)
      go (old o q i) = subst (InTime s.n) i (others o q)
      go (new i) = subst (InTime s.n) i own

  each_in_time : ((e : Entry) → e ∈ live_orders then → OnTime then e) → (o : Order) → o ∈ (accept_next (length run.history.orders + 2) s b).orders → InTime s.n o
  each_in_time all o m = let w = entry_of o m in subst (InTime s.n) w.2 (in_time w.0 (all w.0 w.1))

  done_by : (offer_number run.image block reply ≡ 0) ⇔ (Considered Given run.history b reply × ((e : Entry) → e ∈ live_orders then → OnTime then e))
  done_by =
      record {
        only = λ e. let t = by_state.0.only e in (considered t.0, all_on_time t.1 t.2);
        if = λ t.
            let each = each_in_time t.1 in
            by_state.0.if (reconsidered t.0, each (arrival s b) (new_in (length run.history.orders + 2) s b), λ o m. each (joined_by b o) (old_in (length run.history.orders + 2) s b m));
      }

  late : (e : Entry) → state.Late s.n (record_of then e) → Late then e
  unfolding state_of record_of entry_bound accept_in
  late e h = h

  too_late_lem : (e : Entry) → Late then e → state.Late s.n (record_of then e)
  unfolding state_of record_of entry_bound accept_in
  too_late_lem e h = h

  abbrev new_entry : Entry
  new_entry = arriving run.history b

  late_by : (offer_number run.image block reply ≡ 11) ⇔ (Considered Given run.history b reply × Late then new_entry)
  late_by =
      record {
        only = λ e. let t = by_state.1.only e in (considered t.0, late new_entry (subst (state.Late s.n) (sym arrival_record) t.1));
        if = λ t. by_state.1.if (reconsidered t.0, subst (state.Late s.n) arrival_record (too_late_lem new_entry t.1));
      }

  delaying_by : (offer_number run.image block reply ≡ 12) ⇔ (Considered Given run.history b reply × OnTime then new_entry × (e : Entry) × (e ∈ live_orders then) × Late then e)
  delaying_by =
      record {
        only = λ e.
            let t = by_state.2.only e in
            let w = entry_of (joined_by b t.2) (old_in (length run.history.orders + 2) s b t.3) in
            (considered t.0, on_time_lem new_entry (subst (InTime s.n) (sym arrival_record) t.1), w.0, w.1, late w.0 (subst (state.Late s.n) (sym w.2) t.4));
        if = λ t.
            let own = subst (InTime s.n) arrival_record (in_time new_entry t.1) in
            let w = one own t.2 (too_late_lem t.2 t.4) (origin (length run.history.orders + 2) s b (record_in t.2 t.3)) in
            by_state.2.if (reconsidered t.0, own, w.0, w.1, w.2);
      }
    where
      -- The late one is not the arrival, which is on time.
      one : InTime s.n (arrival s b) → (e : Entry) → state.Late s.n (record_of then e) → Origin (length run.history.orders + 2) s b (record_of then e) → (o : Order) × (o ∈ s.orders) × state.Late s.n (joined_by b o)
      one own e l (old o q i) = (o, q, subst (state.Late s.n) (sym i) l)
      one own e l (new i) = absurd (let w : state.Late s.n (arrival s b) = subst (state.Late s.n) (sym i) l in let z : ⊥ = omega (arith, w, own) in z)

  -- ---- tick and margin: those of the answer that goes with the number
  done_tick : (x : State) (k : ℕ) → k ≡ 0 → (offer_answer k x b).tick ≡ bound_tick x.n (arrival x b)
  unfolding offer_answer
  done_tick x k e = rw e

  decided_margin : (x : State) (k : ℕ) → Decided k → (offer_answer k x b).margin ≡ smallest_margin x b
  unfolding offer_answer
  decided_margin x k (inl e) = rw e
  decided_margin x k (inr (inl e)) = rw e
  decided_margin x k (inr (inr e)) = rw e

  bound_is : bound_tick s.n (record_of then new_entry) ≡ entry_bound then new_entry
  unfolding bound_tick state_of record_of entry_bound accept_in
  bound_is = refl

  due_is : entry_due new_entry ≡ due_of run.history.clock b
  unfolding entry_due entering
  due_is = refl

  -- The arrival and the live orders that it joins are those of the accepted state.
  placed : (o : Order) → o ∈ (arrival s b ∷ joined_live s b) → o ∈ (accept_next (length run.history.orders + 2) s b).orders
  unfolding accept_next
  placed o m =
      elim (Memᴰ.cases_cons m) [
        | inl e ↦ rw e (Memᴰ.append_right (joined_live s b) (Memᴰ.head refl))
        | inr q ↦ Memᴰ.append_left (arrival s b ∷ []) q
      ]

  replaced : (o : Order) → o ∈ (accept_next (length run.history.orders + 2) s b).orders → o ∈ (arrival s b ∷ joined_live s b)
  unfolding accept_next
  replaced o m =
      elim (Memᴰ.append_cases (joined_live s b) m) [
        | inl q ↦ Memᴰ.tail q
        | inr q ↦ Memᴰ.head (Memᴰ.eq_of_singleton q)
      ]

  module _ (a : Answer) (same_tick : a.tick ≡ (offer_answer (offer_number run.image block reply) (decode run.image) b).tick) (same_margin : a.margin ≡ (offer_answer (offer_number run.image block reply) (decode run.image) b).margin) (left : List ℕ) where
    abbrev given : Result
    given = result (offer_number run.image block reply) a run.image left reply

    tick_is : offer_number run.image block reply ≡ 0 → a.tick ≡ entry_bound then new_entry
    tick_is done =
        same_tick
        ∙ done_tick (decode run.image) (offer_number run.image block reply) done
        ∙ ap (λ (x : State). bound_tick x.n (arrival x b)) (says run kept)
        ∙ ap (bound_tick s.n) (sym arrival_record)
        ∙ bound_is

    tick_by : offer_number run.image block reply ≡ 0 → word given.reply reply_tick_at ≡ entry_bound then new_entry
    unfolding result
    tick_by done =
        let t = by_state.0.only done in
        let early : OnTime then new_entry = on_time_lem new_entry (subst (InTime s.n) (sym arrival_record) t.1) in
        rw (done, ← tick_is done) (reply_tick 0 a (omega (arith, tick_is done, early, due_is, (considered t.0).due_tick)))

    module _ (decided : Decided (offer_number run.image block reply)) where
      margin_smallest : a.margin ≡ smallest_margin s b
      margin_smallest = same_margin ∙ decided_margin (decode run.image) (offer_number run.image block reply) decided ∙ ap (λ (x : State). smallest_margin x b) (says run kept)

      written : part given.reply reply_margin_at 4 ≡ four_bytes (bits32 a.margin)
      unfolding result reply_bytes
      written = rw (ne_eqb (offer_number run.image block reply) 1 (not_one decided))

      margin_by : Smallest then (part given.reply reply_margin_at 4)
      margin_by =
          let m = smallest_margin_lem s b in
          let w = entry_of m.order (placed m.order m.among) in
          record {
            given = a.margin;
            order = w.0;
            among = w.1;
            attained = margin_smallest ∙ m.attained ∙ ap (state.margin_of s.n) (sym w.2) ∙ margin_is w.0;
            least = λ e q. rw (margin_smallest, ← margin_is e) (m.least (record_of then e) (replaced (record_of then e) (record_in e q)));
            written = written;
            signed32 = rw margin_smallest (margin_near s b kept.is_sound.facts (fitting (considered (questions.considered run.image block reply decided))));
          }

    judged : Judged Given run.history b reply given
    unfolding result
    judged = record { done = done_by; late = late_by; delaying = delaying_by; tick = tick_by; margin = margin_by }

module _ (run : Run) (kept : Invariant run) where
  quoted : (block reply : List ℕ) → Judged (length block ≡ block_size) run.history (block_of block) reply (quote_call run.image block reply)
  unfolding quote_call quote_answer
  quoted block reply = judged run kept block reply _ refl refl run.image

  offered : (block reply : List ℕ) → Judged (length block ≡ block_size) run.history (block_of block) reply (offer_call run.image block reply)
  unfolding offer_call
  offered block reply = judged run kept block reply _ refl refl _

  -- By format, at the history's own N.
  by_format_lem : (f : FormatOrder) (reply : List ℕ) → FormatAt run.image f reply run.history.n
  unfolding state_of
  by_format_lem f reply = subst (λ (s : State). FormatAt run.image f reply s.n) (says run kept) (format_as_block run.image f reply)

pub in_step_lem : (run : Run) → Invariant run → InStep run
in_step_lem run kept =
    record {
      image_is = kept.image_is;
      read_back = says run kept;
      quotes = quoted run kept;
      offers = offered run kept;
      format_quotes = λ f reply.
          let by = by_format_lem run kept f reply in
          judged_by_format run.history f reply (quote_format_call run.image f reply) _ (quoted run kept _ reply) (unfold quote_format_call result in by.considered) by.quotes_as_block;
      format_offers = λ f reply.
          let by = by_format_lem run kept f reply in
          judged_by_format run.history f reply (offer_format_call run.image f reply) _ (offered run kept _ reply) (unfold offer_format_call result in by.considered) by.offers_as_block;
      never_2 = never_given run kept 2 (inl refl);
      never_3 = never_given run kept 3 (inr (inl refl));
      never_4 = never_given run kept 4 (inr (inr (inl refl)));
      never_9 = never_given run kept 9 (inr (inr (inr refl)));
      thirteen_alone = thirteen run kept;
    }

pub by_history : ByHistory
by_history n low high image image_whole reply reply_whole calls allowed =
    in_step_lem (after_all (started image n reply) calls) (invariant_all calls (started image n reply) (invariant_started image n reply low high image_whole reply_whole) allowed)
