-- What becomes of each call of a list in its log: it has a line, which records a call that gives the same on the same image; or it has none, and leaves the image
-- as it was. An order that is accepted always has a line: its values are in range, and nothing stands beyond N.
use mathlib.Core.Path.{◌≡◌, refl, sym, ap, ◌∙◌}
use mathlib.Core.Logic.{inl, inr}
use mathlib.Core.Bool.{Bool, true, false, ◌&&◌, true≢false}
use mathlib.Core.List.{List, [], ◌∷◌, ◌++◌}
use Prim.Native.Nat.{ℕ, zero, suc, ◌-◌, ◌≤◌}
use native.Mathlib.Omega.{arith}
use lib.ListN.{length, get_or, take, drop, replicate, length-drop, take-append-drop}
use lib.Seq.{length-take-le}
use lib.Dec.{leb, eqb}
use borrow.Author.Tests.{eq-eqb, eqb-true, leb-true, leb-false, le-leb}
use Rattle.model.specs.declared.Block.{Block}
use Rattle.model.specs.Limits.{max_stations}
use Rattle.model.specs.Lists.{at, is_zero, all}
use Rattle.model.specs.Bytes.{word}
use Rattle.model.specs.State.{State}
use Rattle.model.specs.Tick.{starts}
use Rattle.model.specs.Layout.{block_size, block_ranks_at, reply_size, reply_ticket_at}
use Rattle.model.specs.Image.{decode}
use Rattle.model.specs.Soundness.{zero_beyond}
use Rattle.model.specs.Questions.{Question, ◌else◌, first_no}
use Rattle.model.specs.Admission.{block_of, block_bytes, block_length_question, order_questions}
use Rattle.model.specs.Formats.{FormatOrder, format_cost, format_questions, format_block, format_order_questions}
use Rattle.model.specs.Calls.{Result, result, image_questions, open_call, offer_number, offer_call, format_number, offer_format_call, advance_number, advance_call, Call, opening, quoting, offering, quoting_format, offering_format, advancing, perform}
use Rattle.model.specs.History.{starts_in}
use Rattle.model.specs.StateOf.{state_of}
use Rattle.model.specs.Runs.{Lent, Run, outcome, Allowed, during_call}
use Rattle.lists.proofs.Questions.{answer, gives_other, passed}
use Rattle.schedule.proofs.Laws.{and_both, test}
use Rattle.image_laws.specs.InRange.{half_limit, Row}
use Rattle.image_laws.proofs.Tests.{Says, leb_says, both_true, entries_say}
use Rattle.image_laws.proofs.Questions.{replied}
use Rattle.image_laws.proofs.Zeros.{zeros_are}
use Rattle.image_laws.proofs.Parts.{bytes_below}
use Rattle.image_laws.proofs.Clauses.{zero_beyond_lem}
use Rattle.call_laws.specs.Considered.{Fitting}
use Rattle.call_laws.proofs.offers.Exact.{exact}
use Rattle.call_laws.proofs.offers.Kept.{decline_leaves, quote_gives_offer, format_quote_gives_offer, format_decline_leaves}
use Rattle.call_laws.proofs.offers.Questions.{eight_ranks, eight_costs}
use Rattle.call_laws.specs.FormatExact.{Readable, Writable}
use Rattle.call_laws.proofs.opens.Exact as opens
use Rattle.call_laws.proofs.formats.Block.{row_below, block_read, block_length, format_ranks_eight, format_costs_eight, format_cost_lem, format_beyond}
use Rattle.call_laws.proofs.formats.Exact.{three_say, format_as_block}
use Rattle.call_laws.proofs.advances.Exact.{advance_numbers}
use Rattle.call_laws.proofs.advances.Kept.{advance_decline_leaves}
use Rattle.runs.proofs.Out.{same_services}
use Rattle.runs.proofs.Invariant.{Invariant, says}
use Rattle.log_model.specs.Limits.{most8, most16, most32}
use Rattle.log_model.specs.Lines.{Line, advanced, to_eight, call_of, number_of, ticket_of}
use Rattle.log_model.specs.Rerun.{lent_reply}
use Rattle.log_model.specs.Written.{can_hold, offer_line, lines_for, during_in}
use Rattle.log_laws.specs.Meaning.{OfBytes}
use Rattle.log_laws.specs.Fits.{NoneAbove, LineFits}
use Rattle.log_laws.proofs.Replies.{offer_number_fits, offer_reply, offer_ticket_fits, advance_reply, advance_ticket_fits}

-- ---- the rows of a block that a line can hold
module _ (most : ℕ) where
  abbrev within : ℕ → Bool
  within x = leb x most

  none_above : (l : List ℕ) → all within l ≡ true → NoneAbove most l
  none_above l e = (entries_say within (λ x. x ≤ most) (λ x. leb_says x most) 0 (omega arith) l).tells e

  station_within : (l : List ℕ) → all within l ≡ true → (k : ℕ) → at 0 l k ≤ most
  station_within l e zero = omega arith
  station_within l e (suc i) = none_above l e i

  all-within : (l : List ℕ) → NoneAbove most l → all within l ≡ true
  all-within l h = (entries_say within (λ x. x ≤ most) (λ x. leb_says x most) 0 (omega arith) l).passes h

  within_take : (n : ℕ) (l : List ℕ) → all within l ≡ true → all within (take n l) ≡ true
  unfolding all
  within_take zero l e = refl
  within_take (suc n) [] e = refl
  within_take (suc n) (x ∷ l) e = let t = and_both (within x) (all within l) e in both_true t.0 (within_take n l t.1)

to_eight_lem : (n : ℕ) (l : List ℕ) → n ≤ max_stations → length l ≡ max_stations → zero_beyond n l ≡ true → to_eight (take n l) ≡ l
unfolding zero_beyond
to_eight_lem n l few eight beyond =
    let long : length (take n l) ≡ n = length-take-le n l (omega arith) in
    let left : length (drop n l) ≡ 8 - n = length-drop n l ∙ rw eight in
    let zeros : replicate (8 - n) 0 ≡ drop n l = rw left at (sym (zeros_are (drop n l) beyond)) in
    rw (long, zeros) (take-append-drop n l)

-- What a line can hold, part by part.
record Holds (n : ℕ) (b : Block) : Type 0 where
  due_in : b.due_in ≤ most32
  ranks : all (within most8) b.ranks ≡ true
  costs : all (within most16) b.costs ≡ true
  ranks_beyond : zero_beyond n b.ranks ≡ true
  costs_beyond : zero_beyond n b.costs ≡ true

holds : (n : ℕ) (b : Block) → can_hold n b ≡ true → Holds n b
unfolding can_hold
holds n b e =
    let t4 = and_both _ (zero_beyond n b.costs) e in
    let t3 = and_both _ (zero_beyond n b.ranks) t4.0 in
    let t2 = and_both _ (all (within most16) b.costs) t3.0 in
    let t1 = and_both (leb b.due_in most32) (all (within most8) b.ranks) t2.0 in
    record { due_in = leb-true b.due_in most32 t1.0; ranks = t1.1; costs = t2.1; ranks_beyond = t3.1; costs_beyond = t4.1 }

can_hold_lem : (n : ℕ) (b : Block) → Holds n b → can_hold n b ≡ true
unfolding can_hold
can_hold_lem n b h = rw (le-leb b.due_in most32 h.due_in, h.ranks, h.costs, h.ranks_beyond, h.costs_beyond)

-- ---- an order's line
module _ (n : ℕ) (few : n ≤ max_stations) (b : Block) (h : Holds n b) (ranks : length b.ranks ≡ max_stations) (costs : length b.costs ≡ max_stations) (r : Result) where
  line_fits : r.number ≤ most32 → word r.reply reply_ticket_at ≤ most32 → LineFits n (offer_line n b r)
  unfolding offer_line
  line_fits number ticket =
      record {
        due_in = h.due_in;
        ranks_count = length-take-le n b.ranks (omega arith);
        ranks_fit = none_above most8 (take n b.ranks) (within_take most8 n b.ranks h.ranks);
        costs_count = length-take-le n b.costs (omega arith);
        costs_fit = none_above most16 (take n b.costs) (within_take most16 n b.costs h.costs);
        number_fits = number;
        ticket_fits = ticket;
      }

  line_call : call_of (offer_line n b r) ≡ offering (block_bytes b)
  unfolding offer_line call_of
  line_call = rw (to_eight_lem n b.ranks few ranks h.ranks_beyond, to_eight_lem n b.costs few costs h.costs_beyond)

  -- Its bytes say the block, so that they may stand for any others that say it.
  costs_row : Row half_limit b.costs
  costs_row = record { eight = costs; below = λ i. let w = none_above most16 b.costs h.costs i in omega arith }

  bytes_say : block_of (block_bytes b) ≡ b
  bytes_say = block_read b (let w = h.due_in in omega arith) ranks costs_row

  bytes_length : length (block_bytes b) ≡ block_size
  bytes_length = block_length b (let w = h.due_in in omega arith) ranks costs_row

none_fails : (l : List Question) → all answer l ≡ true → first_no l ≡ 0
unfolding all first_no answer
none_fails [] e = refl
none_fails ((true else k) ∷ l) e = none_fails l e
none_fails ((false else k) ∷ l) e = absurd (true≢false (sym e))

same_order : (image x y reply : List ℕ) → block_of x ≡ block_of y → length x ≡ length y → offer_call image x reply ≡ offer_call image y reply
unfolding offer_call offer_number order_questions block_length_question
same_order image x y reply e long = rw (e, long)

-- ---- each call of a run
module _ (run : Run) where
  abbrev n : ℕ
  n = run.history.n

  pub data Logged (lent : Lent) : Type 0 where
    unlogged :
        lines_for lent.call n lent (outcome run lent) ≡ []
        → (outcome run lent).image ≡ run.image
        → during_in lent.call (outcome run lent).number run.history ≡ []
        → Logged lent
    logged :
        (line : Line)
        → lines_for lent.call n lent (outcome run lent) ≡ line ∷ []
        → perform (call_of line) run.image lent_reply ≡ outcome run lent
        → number_of line ≡ (outcome run lent).number
        → ticket_of line ≡ word (outcome run lent).reply reply_ticket_at
        → LineFits n line
        → during_call (call_of line) run.image (outcome run lent).number ≡ during_in lent.call (outcome run lent).number run.history
        → Logged lent

module _ (run : Run) (kept : Invariant run) (few : run.history.n ≤ max_stations) where
  abbrev here : ℕ
  here = run.history.n

  abbrev image : List ℕ
  image = run.image

  n_is : (decode image).n ≡ here
  unfolding state_of
  n_is = ap (λ (s : State). s.n) (says run kept)

  -- An offer of a block.
  module _ (block reply : List ℕ) (bytes : (i : ℕ) → get_or block i 0 ≤ most8) where
    abbrev b : Block
    b = block_of block

    abbrev lent : Lent
    lent = record { call = offering block; reply = reply }

    abbrev holdable : Bool
    holdable = eqb (length block) block_size && can_hold here b && eqb (length reply) reply_size

    rank_fits : NoneAbove most8 b.ranks
    unfolding block_of
    rank_fits i = let w = bytes_below block (λ j. let v = bytes j in omega arith) block_ranks_at i in omega arith

    cost_fits : Fitting (decode image) b → NoneAbove most16 b.costs
    cost_fits fits i =
        elim (test (leb (suc i) (decode image).n)) [
          | inl t ↦ let w = fits.cost_high (suc i) (omega arith) (leb-true (suc i) (decode image).n t) in omega arith
          | inr t ↦ let w = fits.cost_beyond (suc i) (leb-false (suc i) (decode image).n t) in omega arith
        ]

    -- One that is accepted has a line.
    done_holdable : offer_number image block reply ≡ 0 → holdable ≡ true
    done_holdable done =
        let t = ((exact image block reply).done.only done).0 in
        let fits = t.fitting in
        let row : Holds here b = record {
          due_in = let w = fits.due_in in omega arith;
          ranks = all-within most8 b.ranks rank_fits;
          costs = all-within most16 b.costs (cost_fits fits);
          ranks_beyond = (zero_beyond_lem here b.ranks).passes (rw n_is at fits.rank_beyond);
          costs_beyond = (zero_beyond_lem here b.costs).passes (rw n_is at fits.cost_beyond);
        } in
        rw (eq-eqb (length block) block_size t.block_whole, can_hold_lem here b row, eq-eqb (length reply) reply_size t.usable.reply_whole)

    offer_by : (held : Bool) → holdable ≡ held → Logged run lent
    unfolding outcome perform
    offer_by true e =
        let whole = and_both _ (eqb (length reply) reply_size) e in
        let parts = and_both (eqb (length block) block_size) (can_hold here b) whole.0 in
        let h = holds here b parts.1 in
        let r = offer_call image block reply in
        let sized = eqb-true (length reply) reply_size whole.1 in
        let long = eqb-true (length block) block_size parts.0 in
        let call = line_call here few b h (eight_ranks block) (eight_costs block) r in
        logged (offer_line here b r) (rw e)
        (ap (λ (c : Call). perform c image lent_reply) call
        ∙ same_order image (block_bytes b) block lent_reply (bytes_say here few b h (eight_ranks block) (eight_costs block) r) (bytes_length here few b h (eight_ranks block) (eight_costs block) r ∙ sym long)
        ∙ offer_reply image block lent_reply reply refl sized)
        (unfold offer_line in refl)
        (unfold offer_line in refl)
        (line_fits here few b h (eight_ranks block) (eight_costs block) r (unfold offer_call result in offer_number_fits image block reply) (offer_ticket_fits image block reply sized))
        (rw call)
    offer_by false e =
        unlogged (rw e)
        (decline_leaves image block reply (λ done. true≢false (sym (done_holdable done) ∙ e)))
        refl

  -- An offer by format: as the block that it stands for.
  module _ (f : FormatOrder) (reply : List ℕ) (byte : f.rank ≤ most8) where
    abbrev stands : Block
    stands = format_block here f

    abbrev by_format_lem : Lent
    by_format_lem = record { call = offering_format f; reply = reply }

    abbrev questions : List Question
    questions = format_questions here f.format f.sheet

    abbrev format_holdable : Bool
    format_holdable = is_zero (first_no questions) && can_hold here stands && eqb (length reply) reply_size

    readable_says : Says (all answer questions) (Readable here f)
    readable_says = three_say here f few

    -- What the questions before there is a block, and a line's fields, ask for is that it can be written.
    writable : first_no questions ≡ 0 → Holds here stands → Writable here f
    unfolding format_questions all gives_other format_block
    writable passes h =
        record {
          readable = readable_says.tells (passed questions refl passes);
          costs_fit = λ k low high. omega (arith, format_cost_lem here f k low high (omega arith), station_within most16 stands.costs h.costs k);
          due_in_fits = let w = h.due_in in omega arith;
        }

    written_holds : Writable here f → Holds here stands
    unfolding format_block
    written_holds w =
        record {
          due_in = let v = w.due_in_fits in omega arith;
          ranks = all-within most8 stands.ranks (λ i. let v = row_below here (λ k. f.rank) 256 (omega arith) few (λ k low high. omega arith) i in omega arith);
          costs = all-within most16 stands.costs (λ i. let v = row_below here (format_cost f) half_limit (omega arith) few w.costs_fit i in omega arith);
          ranks_beyond = (zero_beyond_lem here stands.ranks).passes (format_beyond here f).1;
          costs_beyond = (zero_beyond_lem here stands.costs).passes (format_beyond here f).0;
        }

    as_block : Writable here f → offer_format_call image f reply ≡ offer_call image (block_bytes stands) reply
    as_block w = rw n_is at ((format_as_block image f reply).offers_as_block (rw n_is w))

    done_format_holdable : format_number image f reply ≡ 0 → format_holdable ≡ true
    unfolding format_number
    done_format_holdable done =
        let w : Writable here f = rw n_is at ((format_as_block image f reply).considered (inl done)) in
        let first : first_no questions ≡ 0 = none_fails questions (readable_says.passes w.readable) in
        let whole : length reply ≡ reply_size = replied reply (image_questions image ++ format_order_questions (decode image) f) (λ e. let v : ◌≡◌ {A = ℕ} 0 1 = sym done ∙ e in omega arith) in
        rw (first, can_hold_lem here stands (written_holds w), eq-eqb (length reply) reply_size whole)

    format_by : (held : Bool) → format_holdable ≡ held → Logged run by_format_lem
    unfolding outcome perform
    format_by true e =
        let whole = and_both _ (eqb (length reply) reply_size) e in
        let parts = and_both (is_zero (first_no questions)) (can_hold here stands) whole.0 in
        let h = holds here stands parts.1 in
        let r = offer_format_call image f reply in
        let sized = eqb-true (length reply) reply_size whole.1 in
        let is = as_block (writable (eqb-true (first_no questions) 0 parts.0) h) in
        let call = line_call here few stands h (format_ranks_eight here f) (format_costs_eight here f) r in
        logged (offer_line here stands r) (rw e)
        (ap (λ (c : Call). perform c image lent_reply) call ∙ offer_reply image (block_bytes stands) lent_reply reply refl sized ∙ sym is)
        (unfold offer_line in refl)
        (unfold offer_line in refl)
        (line_fits here few stands h (format_ranks_eight here f) (format_costs_eight here f) r
        (rw is (unfold offer_call result in offer_number_fits image (block_bytes stands) reply))
        (rw is (offer_ticket_fits image (block_bytes stands) reply sized)))
        (rw call)
    format_by false e =
        unlogged (rw e)
        (format_decline_leaves image f reply (λ done. true≢false (sym (done_format_holdable done) ∙ e)))
        refl

  -- An advance: one that is done has a line.
  advance_by : (reply : List ℕ) (number : ℕ) → advance_number image reply ≡ number → Logged run (record { call = advancing; reply = reply })
  unfolding outcome perform call_of
  advance_by reply zero e =
      let t = ((advance_numbers image reply).done.only e).0 in
      let during : (starts (decode image)).services ≡ (starts_in run.history).services = ap (λ (s : State). (starts s).services) (says run kept) ∙ sym (same_services run.history kept.history) in
      let gave : (advance_call image reply).number ≡ 0 = unfold advance_call result in e in
      logged (advanced (word (advance_call image reply).reply reply_ticket_at)) (rw gave)
      (advance_reply image lent_reply reply refl t.reply_whole)
      (sym gave)
      refl
      (advance_ticket_fits image reply t.reply_whole)
      (rw (gave, during))
  advance_by reply (suc k) e =
      let gave : (advance_call image reply).number ≡ suc k = unfold advance_call result in e in
      unlogged (rw gave) (advance_decline_leaves image reply (λ z. let w : ◌≡◌ {A = ℕ} (suc k) 0 = sym e ∙ z in omega arith)) (rw gave)

  call_logged : (call : Call) (reply : List ℕ) → Allowed call (perform call image reply) → OfBytes call → Logged run (record { call = call; reply = reply })
  unfolding outcome perform
  call_logged (opening stations) reply other bytes = unlogged refl (opens.open_decline_leaves image stations reply (unfold open_call result in other)) refl
  call_logged (quoting block) reply any bytes = unlogged refl (quote_gives_offer image block reply).image_left refl
  call_logged (offering block) reply any bytes = offer_by block reply bytes (holdable block reply bytes) refl
  call_logged (quoting_format f) reply any bytes = unlogged refl (format_quote_gives_offer image f reply).image_left refl
  call_logged (offering_format f) reply any bytes = format_by f reply bytes (format_holdable f reply bytes) refl
  call_logged advancing reply any bytes = advance_by reply (advance_number image reply) refl

  pub each_logged : (lent : Lent) → Allowed lent.call (outcome run lent) → OfBytes lent.call → Logged run lent
  unfolding outcome
  each_logged lent allowed bytes = call_logged lent.call lent.reply allowed bytes
