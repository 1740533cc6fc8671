-- Question by question: what is left of each test is the test of the next. What is read of the image are its state's figures.
use mathlib.Core.Path.{◌≡◌, sym, ap, subst, ◌∙◌}
use mathlib.Core.Bool.{Bool, true, ◌&&◌}
use mathlib.Core.List.{List}
use Prim.Native.Nat.{ℕ, ◌≤◌, ◌<◌}
use native.Mathlib.Omega.{arith}
use lib.ListN.{length}
use lib.Dec.{leb, ltb}
use borrow.Author.Tests.{le-leb, lt-leb, lt-ltb, le-ltb}
use borrow.Author.Rules.{rules}
use Rattle.model.specs.declared.Block.{Block}
use Rattle.model.specs.Limits.{max_live, max_due_in, last_tick}
use Rattle.model.specs.Bytes.{byte, word}
use Rattle.model.specs.State.{State}
use Rattle.model.specs.Layout.{station_count_at, clock_at, next_at}
use Rattle.model.specs.Image.{live_count, decode}
use Rattle.model.specs.Soundness.{costs_in_range, zero_beyond}
use Rattle.model.specs.Admission.{due_of}
use Rattle.image_laws.specs.InRange.{byte_limit, Below}
use Rattle.image_laws.proofs.Read.{decode_n, decode_clock, decode-next, decode-live}
use Rattle.image_laws.proofs.Sound.{sound_gives}
use Rattle.call_laws.proofs.offers.Questions.{fitting}
use Rattle.call_laws.specs.Considered.{Fitting}
use Rattle.image.proofs.Decoded.{readable, listed_is, sound_pipeline}
use Rattle.admission.proofs.order_questions.OfferLaws.{BlockIs, costs_no, due_in_no, due_tick_no, tickets_no, room_no, all_yes}
use Rattle.admission.proofs.order_questions.offer.Goals as goal

-- Questions 6 to 10 of an order by what the code has read of the image: 6 either way, and the others where they pass.
module _ (image : List ℕ) (b : Block) where
  block_is : {n : ℕ} {fits t : Bool} → n ≡ byte image station_count_at → fits ≡ (costs_in_range n b.costs && zero_beyond n b.costs && zero_beyond n b.ranks) → fits ≡ t → BlockIs (decode image) b t
  block_is n_is fits_is e = rw (← decode_n image, ← n_is) (sym fits_is ∙ e)

  due_in_yes : b.due_in ≤ max_due_in → leb b.due_in max_due_in ≡ true
  due_in_yes = le-leb b.due_in max_due_in

  due_tick_is : {clock d : ℕ} → clock ≡ word image clock_at → d ≡ due_of clock b → d ≡ due_of (decode image).clock b
  due_tick_is clock_is d_is = d_is ∙ ap (λ (k : ℕ). due_of k b) (clock_is ∙ decode_clock image)

  due_tick_yes : {clock d : ℕ} → clock ≡ word image clock_at → d ≡ due_of clock b → d ≤ last_tick → leb (due_of (decode image).clock b) last_tick ≡ true
  due_tick_yes clock_is d_is h = le-leb (due_of (decode image).clock b) last_tick (omega (arith, due_tick_is clock_is d_is))

  ticket_yes : {next : ℕ} → next ≡ word image next_at → 1 ≤ next → leb 1 (decode image).next ≡ true
  ticket_yes next_is h = le-leb 1 (decode image).next (omega (arith, next_is ∙ decode-next image))

  room_yes : live_count image < max_live → ltb (length (decode image).orders) max_live ≡ true
  room_yes h = lt-ltb (length (decode image).orders) max_live (omega (arith, decode-live image))

pub returns-then-not-fits : goal.returns-then-not-fits
returns-then-not-fits c =
    (costs_no _ _ (block_is c.args.image.now c.args.b c.from.ensures c.fits.ensures c.if-not-fits.true))

pub returns-then-from-gt-MAX_DUE_IN : goal.returns-then-from-gt-MAX_DUE_IN
returns-then-from-gt-MAX_DUE_IN c =
    let block = block_is c.args.image.now c.args.b c.from.ensures c.fits.ensures c.if-not-fits.false in
    (due_in_no _ _ block (lt-leb c.args.b.due_in max_due_in (omega arith)))

pub returns-then-from-due_tick : goal.returns-then-from-due_tick
returns-then-from-due_tick c =
    let image = c.args.image.now in
    let b = c.args.b in
    let block = block_is image b c.from.ensures c.fits.ensures c.if-not-fits.false in
    let due_in = due_in_yes image b (omega arith) in
    (due_tick_no _ _ block due_in (lt-leb (due_of (decode image).clock b) last_tick (omega (arith, due_tick_is image b c.u32_at-clock.ensures c.due_tick.ensures))))

pub returns-then-next-eq0 : goal.returns-then-next-eq0
returns-then-next-eq0 c =
    let image = c.args.image.now in
    let b = c.args.b in
    let block = block_is image b c.from.ensures c.fits.ensures c.if-not-fits.false in
    let due_in = due_in_yes image b (omega arith) in
    let due_tick = due_tick_yes image b c.u32_at-clock.ensures c.due_tick.ensures (omega arith) in
    (tickets_no _ _ block due_in due_tick (lt-leb 1 (decode image).next (omega (arith, c.u32_at-next.ensures ∙ decode-next image))))

pub returns-then-live-ge-MAX_LIVE : goal.returns-then-live-ge-MAX_LIVE
returns-then-live-ge-MAX_LIVE c =
    let image = c.args.image.now in
    let b = c.args.b in
    let block = block_is image b c.from.ensures c.fits.ensures c.if-not-fits.false in
    let due_in = due_in_yes image b (omega arith) in
    let due_tick = due_tick_yes image b c.u32_at-clock.ensures c.due_tick.ensures (omega arith) in
    let ticket = ticket_yes image b c.u32_at-next.ensures (omega arith) in
    (room_no _ _ block due_in due_tick ticket (le-ltb (length (decode image).orders) max_live (omega (arith, decode-live image))))

pub decode-requires : goal.decode-requires
decode-requires c = readable _ (λ i. search rules) c.requires

pub answered-requires : goal.answered-requires
answered-requires c =
    let image = c.args.image.now in
    let b = c.args.b in
    let bytes : Below byte_limit image = λ i. search rules in
    let eight_costs : length b.costs ≡ 8 = search rules in
    let enough : (decode image).n ≤ length b.costs = omega (arith, (sound_gives image bytes c.requires).facts.n_high) in
    let block = block_is image b c.from.ensures c.fits.ensures c.if-not-fits.false in
    let due_in = due_in_yes image b (omega arith) in
    let due_tick = due_tick_yes image b c.u32_at-clock.ensures c.due_tick.ensures (omega arith) in
    let ticket = ticket_yes image b c.u32_at-next.ensures (omega arith) in
    let room = room_yes image b (omega arith) in
    record {
      sound_pipeline = sound_pipeline _ bytes c.requires c.decode.ensures;
      fitting = subst (λ (s : State). Fitting s b) (sym (listed_is _ bytes c.requires c.decode.ensures)) (fitting _ _ enough block due_in due_tick ticket room);
    }

pub returns : goal.returns
returns c =
    let image = c.args.image.now in
    let b = c.args.b in
    let block = block_is image b c.from.ensures c.fits.ensures c.if-not-fits.false in
    let due_in = due_in_yes image b (omega arith) in
    let due_tick = due_tick_yes image b c.u32_at-clock.ensures c.due_tick.ensures (omega arith) in
    let ticket = ticket_yes image b c.u32_at-next.ensures (omega arith) in
    let room = room_yes image b (omega arith) in
    all_yes _ _ block due_in due_tick ticket room _ (rw (listed_is _ (λ i. search rules) c.requires c.decode.ensures) at c.answered.ensures)
