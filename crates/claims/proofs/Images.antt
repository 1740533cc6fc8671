-- What the schedule's theorems say of states, said of images: a sound image says a valid state, and each done call leaves the image of the state after it. Over
-- lists of calls the steps of the schedule are the done offers and the done advances.
use mathlib.Core.Path.{◌≡◌, refl, sym, ap, subst, ◌∙◌}
use mathlib.Core.Logic.{inl}
use mathlib.Core.List.{List, [], ◌∷◌, ◌++◌, map}
use Prim.Native.Nat.{ℕ, zero, suc, ◌+◌}
use native.Mathlib.Omega.{arith}
use Rattle.model.specs.declared.Order.{Order}
use Rattle.model.specs.declared.Service.{Service}
use Rattle.model.specs.State.{State, idle}
use Rattle.model.specs.Tick.{one_less, starts, tick, leave, advance}
use Rattle.model.specs.Image.{decode}
use Rattle.model.specs.Admission.{block_of, block_bytes, accept}
use Rattle.model.specs.Formats.{FormatOrder, format_block}
use Rattle.model.specs.Calls.{Result, result, open_call, offer_number, offer_call, quote_call, format_number, offer_format_call, quote_format_call, advance_number, advance_call, Call, opening, quoting, offering, quoting_format, offering_format, advancing, perform}
use Rattle.model.specs.Runs.{Lent, started, after_all, during_call, during_calls}
use Rattle.schedule.specs.Valid.{◌∈◌, serving}
use Rattle.schedule.specs.Accept.{Acceptable}
use Rattle.schedule.specs.Course as course
use Rattle.schedule.proofs.Starts.{valid_starts, starts_as_asked}
use Rattle.schedule.proofs.Pass.{ticked_plain, plain_pass, passes_as_asked}
use Rattle.schedule.proofs.Course.{served_in_full}
use Rattle.schedule.proofs.Timing.{starts_once_accepted, starts_once_moved}
use Rattle.schedule.proofs.Out.{ticket_out_as_asked}
use Rattle.image_laws.specs.InRange.{byte_limit, Below}
use Rattle.image_laws.specs.SoundFacts.{SoundInRange}
use Rattle.image_laws.proofs.Sound.{sound_gives, sound_valid}
use Rattle.image_laws.proofs.Written.{decode-encode}
use Rattle.call_laws.proofs.offers.Questions.{eight_ranks, eight_costs}
use Rattle.call_laws.proofs.opens.Exact.{open_decline_leaves}
use Rattle.call_laws.proofs.offers.Exact.{exact}
use Rattle.call_laws.proofs.offers.Accept.{accept_sound}
use Rattle.call_laws.proofs.offers.Kept.{done_image, decline_leaves, quote_gives_offer, format_quote_gives_offer, format_decline_leaves}
use Rattle.call_laws.proofs.formats.Exact.{same_number, format_as_block}
use Rattle.call_laws.proofs.advances.Exact.{advance_numbers}
use Rattle.call_laws.proofs.advances.Advance.{advance_sound}
use Rattle.call_laws.proofs.advances.Kept.{advance_decline_leaves}
use Rattle.call_laws.proofs.advances.Kept as advances
use Rattle.claims.specs.Images.{OfEveryImage, AfterEveryList, TicksAsAsked, StartsOnceAccepted, StartsOnceMoved, Timely, NotReopened, ServedInFull}
use Rattle.runs.proofs.Invariant.{says, invariant_started, invariant_all}
use Rattle.runs.proofs.Replies.{advance_gives}

-- ---- what a done call leaves
module _ (image : List ℕ) (sound : SoundInRange (decode image)) where
  abbrev s : State
  s = decode image

  module _ (block reply : List ℕ) (done : offer_number image block reply ≡ 0) where
    offered_sound : SoundInRange (accept s (block_of block))
    offered_sound =
        let t = (exact image block reply).done.only done in
        accept_sound s (block_of block) sound t.0.fitting t.1 t.2 (eight_ranks block) (eight_costs block)

    offered_says : decode (offer_call image block reply).image ≡ accept s (block_of block)
    offered_says = ap decode (done_image image block reply done) ∙ decode-encode (accept s (block_of block)) offered_sound.in_range

    acceptable : Acceptable s (block_of block)
    acceptable =
        let fitting = ((exact image block reply).done.only done).0.fitting in
        record { stations = sound.facts.n_low; ticket = fitting.ticket_left; costs = fitting.cost_low }

  module _ (reply : List ℕ) (done : advance_number image reply ≡ 0) where
    advanced_sound : SoundInRange (advance s)
    advanced_sound = advance_sound s sound ((advance_numbers image reply).done.only done).1

    advanced_says : decode (advance_call image reply).image ≡ advance s
    advanced_says = ap decode (advances.done_image image reply done) ∙ decode-encode (advance s) advanced_sound.in_range

-- ---- each tick
clock_up : (s : State) → (advance s).clock ≡ s.clock + 1
unfolding advance leave tick starts
clock_up s = refl

pub ticks_of_lem : (image : List ℕ) → SoundInRange (decode image) → TicksAsAsked image
unfolding advance
ticks_of_lem image sound reply done =
    let s = decode image in
    let valid = sound_valid s sound in
    let says_after = advanced_says image sound reply done in
    record {
      each_starts = starts_as_asked s valid;
      each_passes = passes_as_asked (starts s) (valid_starts s valid) (map one_less (starts s).services) (ticked_plain (starts s).services);
      is_advance = plain_pass (starts s);
      says_after = says_after;
      clock_after = ap (λ (x : State). x.clock) says_after ∙ clock_up s;
      ticket_out = ticket_out_as_asked s valid;
      ticket_given = (advance_gives image reply sound done).0;
    }

pub timely_of : (image : List ℕ) → SoundInRange (decode image) → Timely image
unfolding accept advance leave tick starts
timely_of image sound =
    let s = decode image in
    let valid = sound_valid s sound in
    record {
      accepted = λ block reply done free nobody.
          let t = starts_once_accepted s valid (block_of block) (acceptable image sound block reply done) free nobody in
          let is = sym (offered_says image sound block reply done) in
          subst (λ (x : State). StartsOnceAccepted s x (block_of block).costs) is (record { same_clock = refl; starts_at_one = t.1 });
      moved = λ reply done k below w one.
          let is = sym (advanced_says image sound reply done) in
          subst (λ (x : State). serving x (k + 1) ≡ idle → ((o : Order) → o ∈ x.orders → o.station ≡ k + 1 → o.ticket ≡ w.order.ticket) → StartsOnceMoved s x k w.order) is (λ free only. let t = starts_once_moved s valid k below w one free only in record { next_clock = refl; starts_at_next = t.1 });
    }

-- ---- the way of each order
-- Steps of the schedule that do from a state what the calls do from an image.
pub record Followed (image : List ℕ) (calls : List Lent) (s : State) : Type 0 where
  pub steps : List course.Step
  pub may : course.AllAcceptable s steps
  pub same_ticks : course.during_ticks s steps ≡ during_calls image calls

abbrev Follows : List Lent → Type 0
Follows later = (image : List ℕ) → SoundInRange (decode image) → NotReopened image later → Followed image later (decode image)

module _ (later : List Lent) (follows : Follows later) (image : List ℕ) (sound : SoundInRange (decode image)) where
  -- A call that leaves the image as it was.
  unchanged : (after : List ℕ) → after ≡ image → NotReopened after later → Followed after later (decode image)
  unchanged after e allowed =
      subst (λ (s : State). Followed after later s) (ap decode e) (follows after (subst (λ (i : List ℕ). SoundInRange (decode i)) (sym e) sound) allowed)

  -- A call that leaves the image of another sound state.
  changed : (after : List ℕ) (s : State) → decode after ≡ s → SoundInRange s → NotReopened after later → Followed after later s
  changed after s e there allowed =
      subst (λ (x : State). Followed after later x) e (follows after (subst SoundInRange (sym e) there) allowed)

  offered : (block reply : List ℕ) (k : ℕ) → offer_number image block reply ≡ k → NotReopened (offer_call image block reply).image later → Followed image (record { call = offering block; reply = reply } ∷ later) (decode image)
  unfolding perform
  offered block reply zero e allowed =
      let f = changed (offer_call image block reply).image (accept (decode image) (block_of block)) (offered_says image sound block reply e) (offered_sound image sound block reply e) allowed in
      record { steps = course.accepting (block_of block) ∷ f.steps; may = (acceptable image sound block reply e, f.may); same_ticks = f.same_ticks }
  offered block reply (suc k) e allowed =
      let f = unchanged (offer_call image block reply).image (decline_leaves image block reply (λ z. let w : ◌≡◌ {A = ℕ} (suc k) 0 = sym e ∙ z in omega arith)) allowed in
      record { steps = f.steps; may = f.may; same_ticks = f.same_ticks }

  -- An order by format that is done is that of its block.
  format_offered : (f : FormatOrder) (reply : List ℕ) (k : ℕ) → format_number image f reply ≡ k → NotReopened (offer_format_call image f reply).image later → Followed image (record { call = offering_format f; reply = reply } ∷ later) (decode image)
  unfolding perform
  format_offered f reply zero e allowed =
      let a = format_as_block image f reply in
      let w = a.considered (inl e) in
      let block = block_bytes (format_block (decode image).n f) in
      let is = a.offers_as_block w in
      let g = offered block reply 0 (sym (same_number image f reply w) ∙ e) (subst (λ (r : Result). NotReopened r.image later) is allowed) in
      record { steps = g.steps; may = g.may; same_ticks = g.same_ticks ∙ ap (λ (r : Result). during_calls r.image later) (sym is) }
  format_offered f reply (suc k) e allowed =
      let g = unchanged (offer_format_call image f reply).image (format_decline_leaves image f reply (λ z. let w : ◌≡◌ {A = ℕ} (suc k) 0 = sym e ∙ z in omega arith)) allowed in
      record { steps = g.steps; may = g.may; same_ticks = g.same_ticks }

  by_number : (reply : List ℕ) {k : ℕ} → (advance_call image reply).number ≡ k → during_call advancing image k ++ during_calls (advance_call image reply).image later ≡ during_calls image (record { call = advancing; reply = reply } ∷ later)
  unfolding perform
  by_number reply e = ap (λ (j : ℕ). during_call advancing image j ++ during_calls (advance_call image reply).image later) (sym e)

  advanced : (reply : List ℕ) (k : ℕ) → (advance_call image reply).number ≡ k → NotReopened (advance_call image reply).image later → Followed image (record { call = advancing; reply = reply } ∷ later) (decode image)
  unfolding perform
  advanced reply zero e allowed =
      let done : advance_number image reply ≡ 0 = unfold advance_call result in e in
      let f = changed (advance_call image reply).image (advance (decode image)) (advanced_says image sound reply done) (advanced_sound image sound reply done) allowed in
      record { steps = course.advancing ∷ f.steps; may = f.may; same_ticks = ap (λ l. (starts (decode image)).services ∷ l) f.same_ticks ∙ by_number reply e }
  advanced reply (suc k) e allowed =
      let other : advance_number image reply ≡ 0 → ⊥ = λ z. let w : ◌≡◌ {A = ℕ} (suc k) 0 = sym e ∙ (unfold advance_call result in z) in omega arith in
      let f = unchanged (advance_call image reply).image (advance_decline_leaves image reply other) allowed in
      record { steps = f.steps; may = f.may; same_ticks = f.same_ticks ∙ by_number reply e }

  one_more_lem : (lent : Lent) → NotReopened image (lent ∷ later) → Followed image (lent ∷ later) (decode image)
  unfolding perform
  one_more_lem lent allowed = go lent.call lent.reply allowed
    where
      go : (call : Call) (reply : List ℕ) → NotReopened image (record { call = call; reply = reply } ∷ later) → Followed image (record { call = call; reply = reply } ∷ later) (decode image)
      go (opening n) reply allowed = let f = unchanged (open_call image n reply).image (open_decline_leaves image n reply (unfold open_call result in allowed.0)) allowed.1 in record { steps = f.steps; may = f.may; same_ticks = f.same_ticks }
      go (quoting block) reply allowed = let f = unchanged (quote_call image block reply).image (quote_gives_offer image block reply).image_left allowed.1 in record { steps = f.steps; may = f.may; same_ticks = f.same_ticks }
      go (offering block) reply allowed = offered block reply (offer_number image block reply) refl allowed.1
      go (quoting_format f) reply allowed = let g = unchanged (quote_format_call image f reply).image (format_quote_gives_offer image f reply).image_left allowed.1 in record { steps = g.steps; may = g.may; same_ticks = g.same_ticks }
      go (offering_format f) reply allowed = format_offered f reply (format_number image f reply) refl allowed.1
      go advancing reply allowed = advanced reply (advance_call image reply).number refl allowed.1

follow : (calls : List Lent) → Follows calls
follow [] image sound allowed = record { steps = []; may = tt; same_ticks = refl }
follow (lent ∷ later) image sound allowed = one_more_lem later (follow later) image sound lent allowed

pub served_of : (image : List ℕ) → SoundInRange (decode image) → ServedInFull image
served_of image sound block reply done later allowed =
    let s = decode image in
    let b = block_of block in
    let after = (offer_call image block reply).image in
    let is = offered_says image sound block reply done in
    let f = subst (λ (x : State). Followed after later x) is (follow later after (subst SoundInRange (sym is) (offered_sound image sound block reply done)) allowed) in
    subst (λ (l : List (List Service)). course.Course s.n s.next b.costs 1 0 l) f.same_ticks
    (served_in_full s (sound_valid s sound) b (acceptable image sound block reply done) f.steps f.may)

-- ---- of every image of bytes that a call takes, and after every list
abbrev Sounds : List ℕ → Type 0
Sounds image = SoundInRange (decode image)

-- What holds of a sound image where some call is done holds of every image of bytes: a call is done only with a sound one.
offer_takes : (image block reply : List ℕ) → Below byte_limit image → offer_number image block reply ≡ 0 → Sounds image
offer_takes image block reply bytes done = sound_gives image bytes ((exact image block reply).done.only done).0.usable.image_sound

advance_takes : (image reply : List ℕ) → Below byte_limit image → advance_number image reply ≡ 0 → Sounds image
advance_takes image reply bytes done = sound_gives image bytes ((advance_numbers image reply).done.only done).0.image_sound

pub after_every_list : (Says : List ℕ → Type 0) → ((image : List ℕ) → Sounds image → Says image) → AfterEveryList Says
after_every_list Says of n low high image image_whole reply reply_whole calls allowed =
    let run = after_all (started image n reply) calls in
    let kept = invariant_all calls (started image n reply) (invariant_started image n reply low high image_whole reply_whole) allowed in
    of run.image (subst SoundInRange (sym (says run kept)) kept.is_sound)

pub ticks : OfEveryImage TicksAsAsked
ticks image bytes reply done = ticks_of_lem image (advance_takes image reply bytes done) reply done

pub timely : OfEveryImage Timely
timely image bytes =
    record {
      accepted = λ block reply done. (timely_of image (offer_takes image block reply bytes done)).accepted block reply done;
      moved = λ reply done. (timely_of image (advance_takes image reply bytes done)).moved reply done;
    }

pub served : OfEveryImage ServedInFull
served image bytes block reply done = served_of image (offer_takes image block reply bytes done) block reply done
