-- The first "no" of questions 2 to 4; then the clock of the image decides: reply and image are those of the state after the tick, or 13 is given.
use mathlib.Core.Path.{◌≡◌, refl, sym, ap, ◌∙◌}
use native.Mathlib.Omega.{arith}
use Prim.Native.Nat.{◌<◌}
use borrow.Author.Rules.{rules}
use Rattle.model.specs.Limits.{last_tick}
use Rattle.model.specs.Image.{encode}
use Rattle.image_laws.proofs.Sound.{sound_gives, encode-decode}
use Rattle.image.proofs.Decoded.{readable, listed_is, sound_pipeline}
use Rattle.dispatcher.proofs.replies.Declines.{refused, gives_back}
use Rattle.dispatcher.proofs.offer_parts.OfferLaws.{length_no, sound_lem}
use Rattle.dispatcher.proofs.advance_parts.AdvanceLaws.{early_clock, usable, declined, ended, done}
use Rattle.dispatcher.proofs.advance_parts.After.{stations}
use Rattle.dispatcher.proofs.advance_parts.advanced.Goals as goal

pub returns-in_default : goal.returns-in_default
returns-in_default c =
    gives_back (declined c.args.image.now c.args.reply.now (search rules) 2 (length_no _ (search rules)) (λ e. cc)) c.put_answer.ensures.number (search rules) (search rules)

pub returns-in-Err : goal.returns-in-Err
returns-in-Err c =
    let is : c.in-Some.image.now ≡ c.args.image.now = search rules in
    gives_back (declined c.args.image.now c.args.reply.now (search rules) _ (rw is at c.in-Err.ensures) (refused _)) c.put_answer-in-Err.ensures.number (search rules) (search rules)

pub returns-then-u32_at-ge-LAST_TICK : goal.returns-then-u32_at-ge-LAST_TICK
returns-then-u32_at-ge-LAST_TICK c =
    let is : c.in-Some.image.now ≡ c.args.image.now = search rules in
    let ok = sound_lem _ (sym c.in_default-sound_image.ensures) in
    gives_back (rw is at (ended c.in-Some.image.now c.args.reply.now (usable _ _ (search rules) (search rules) ok) c.u32_at.result c.u32_at.ensures (sound_gives _ (λ i. search rules) ok.is_sound) c.if-u32_at-ge-LAST_TICK.true 13 refl)) (search rules) (search rules) (search rules)

pub decode-p-requires : goal.decode-p-requires
decode-p-requires c = readable _ (λ i. search rules) (sound_lem _ (sym c.in_default-sound_image.ensures)).is_sound

pub served-services-requires : goal.served-services-requires
served-services-requires c = sound_pipeline _ (λ i. search rules) (sound_lem _ (sym c.in_default-sound_image.ensures)).is_sound c.decode-p.ensures

pub ticket_out-requires : goal.ticket_out-requires
ticket_out-requires c = stations (sound_pipeline _ (λ i. search rules) (sound_lem _ (sym c.in_default-sound_image.ensures)).is_sound c.decode-p.ensures) c.from.ensures

pub overflow_add-given : goal.overflow_add-given
overflow_add-given c =
    let ok = sound_lem _ (sym c.in_default-sound_image.ensures) in
    let early : c.decode-p.result.clock < last_tick = early_clock _ _ c.u32_at.ensures (listed_is _ (λ i. search rules) ok.is_sound c.decode-p.ensures) (omega (arith, c.if-u32_at-ge-LAST_TICK.false)) in
    record { fits = omega (arith, early) }

pub put_after-requires : goal.put_after-requires
put_after-requires c =
    let ok = sound_lem _ (sym c.in_default-sound_image.ensures) in
    let state_is = listed_is _ (λ i. search rules) ok.is_sound c.decode-p.ensures in
    let carried = sound_pipeline _ (λ i. search rules) ok.is_sound c.decode-p.ensures in
    let early : c.decode-p.result.clock < last_tick = early_clock _ _ c.u32_at.ensures state_is (omega (arith, c.if-u32_at-ge-LAST_TICK.false)) in
    let same = encode-decode _ (search rules) (λ i. search rules) ok.is_marked ok.is_sound in
    (sym same ∙ ap encode (sym state_is), carried, early, c.served-services.ensures)

pub returns : goal.returns
returns c =
    let is : c.in-Some.image.now ≡ c.args.image.now = search rules in
    let ok = sound_lem _ (sym c.in_default-sound_image.ensures) in
    let state_is = listed_is _ (λ i. search rules) ok.is_sound c.decode-p.ensures in
    gives_back
    (rw is at
    (done c.in-Some.image.now c.args.reply.now (usable _ _ (search rules) (search rules) ok) c.u32_at.result c.u32_at.ensures (omega (arith, c.if-u32_at-ge-LAST_TICK.false)) c.decode-p.result state_is
    c.served-services.ensures c.from.ensures c.ticket_out.ensures c.put_after.ensures))
    (search rules) (search rules) (search rules)
