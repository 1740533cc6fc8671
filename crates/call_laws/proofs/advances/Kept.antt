-- What an advance leaves. A done advance's image is that of the state after the tick, which is sound; a decline leaves the image by the call's definition.
use mathlib.Core.Path.{◌≡◌}
use mathlib.Core.List.{List}
use Prim.Native.Nat.{ℕ}
use borrow.Author.Tests.{ne_eqb}
use Rattle.model.specs.Tick.{advance}
use Rattle.model.specs.Image.{decode, encode}
use Rattle.model.specs.Calls.{advance_number, advance_call, result}
use Rattle.image_laws.proofs.Read.{decode-byte-ranks}
use Rattle.image_laws.proofs.Sound.{sound_gives}
use Rattle.image_laws.proofs.SoundImage.{sound_image}
use Rattle.call_laws.specs.AdvanceKept.{AdvanceKeepsSound, AdvanceDeclineLeaves}
use Rattle.call_laws.proofs.advances.Exact.{advance_numbers}
use Rattle.call_laws.proofs.advances.Advance.{advance_byte_ranks, advance_sound}

pub done_image : (image reply : List ℕ) → advance_number image reply ≡ 0 → (advance_call image reply).image ≡ encode (advance (decode image))
unfolding advance_call result
done_image image reply e = rw e

pub advance_keeps_sound : AdvanceKeepsSound
advance_keeps_sound image reply bytes done =
    let t = (advance_numbers image reply).done.only done in
    let before = sound_gives image bytes t.0.image_sound in
    let h = advance_sound (decode image) before t.1 in
    let s = advance (decode image) in
    let ranks = advance_byte_ranks (decode image) (decode-byte-ranks image bytes) in
    rw (done_image image reply done) (sound_image s h ranks)

pub advance_decline_leaves : AdvanceDeclineLeaves
unfolding advance_call result
advance_decline_leaves image reply declined = rw (ne_eqb (advance_number image reply) 0 declined)
