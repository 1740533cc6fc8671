-- What an offer and a quote leave. A done offer's image is that of the state with the arrival accepted, which is sound; the rest is read off the calls by their number.
use mathlib.Core.Path.{◌≡◌, refl}
use mathlib.Core.List.{List}
use Prim.Native.Nat.{ℕ}
use lib.Dec.{eqb}
use borrow.Author.Tests.{ne_eqb}
use Rattle.model.specs.declared.Block.{Block}
use Rattle.model.specs.Layout.{block_ranks_at}
use Rattle.model.specs.Image.{decode, encode}
use Rattle.model.specs.Questions.{reply_bytes}
use Rattle.model.specs.Admission.{block_of, accept, quote_answer}
use Rattle.model.specs.Formats.{FormatOrder, format_block}
use Rattle.model.specs.Calls.{offer_number, offer_call, quote_call, format_number, offer_format_call, quote_format_call, result, offered, quoted}
use Rattle.schedule.proofs.Laws.{by_cond}
use Rattle.image_laws.specs.InRange.{byte_limit, Below}
use Rattle.image_laws.proofs.Parts.{bytes_below}
use Rattle.image_laws.proofs.Read.{decode-byte-ranks}
use Rattle.image_laws.proofs.Sound.{sound_gives}
use Rattle.image_laws.proofs.SoundImage.{sound_image}
use Rattle.call_laws.specs.OfferKept.{OfferKeepsSound, DeclineLeaves, QuotedAs, QuoteGivesOffer, FormatQuoteGivesOffer}
use Rattle.call_laws.proofs.offers.Questions.{eight_ranks, eight_costs}
use Rattle.call_laws.proofs.offers.Exact.{exact}
use Rattle.call_laws.proofs.offers.Accept.{accept_byte_ranks, accept_sound}

block_ranks : (block : List ℕ) → Below byte_limit block → Below byte_limit (block_of block).ranks
unfolding block_of
block_ranks block bytes = bytes_below block bytes block_ranks_at

pub done_image : (image block reply : List ℕ) → offer_number image block reply ≡ 0 → (offer_call image block reply).image ≡ encode (accept (decode image) (block_of block))
unfolding offer_call result
done_image image block reply e = rw e

pub offer_keeps_sound : OfferKeepsSound
offer_keeps_sound image block reply image_bytes block_bytes done =
    let t = (exact image block reply).done.only done in
    let before = sound_gives image image_bytes t.0.usable.image_sound in
    let h = accept_sound (decode image) (block_of block) before t.0.fitting t.1 t.2 (eight_ranks block) (eight_costs block) in
    let s = accept (decode image) (block_of block) in
    let ranks = accept_byte_ranks (decode image) (block_of block) (decode-byte-ranks image image_bytes) (block_ranks block block_bytes) in
    rw (done_image image block reply done) (sound_image s h ranks)

pub decline_leaves : DeclineLeaves
unfolding offer_call result
decline_leaves image block reply declined = rw (ne_eqb (offer_number image block reply) 0 declined)

-- A quote and an offer with the same number, of the same block.
quoted_as : (number : ℕ) (image : List ℕ) (b : Block) (reply : List ℕ) → QuotedAs image (quoted number image b reply) (offered number image b reply)
unfolding result reply_bytes quote_answer
quoted_as number image b reply =
    record {
      same_number = refl;
      image_left = by_cond (λ left. left ≡ image) (eqb number 0) refl refl;
      unheard = λ e. rw e;
      same_reply = λ heard. rw (ne_eqb number 1 heard);
    }

pub quote_gives_offer : QuoteGivesOffer
unfolding quote_call offer_call
quote_gives_offer image block reply = quoted_as (offer_number image block reply) image (block_of block) reply

pub format_quote_gives_offer : FormatQuoteGivesOffer
unfolding quote_format_call offer_format_call
format_quote_gives_offer image f reply = quoted_as (format_number image f reply) image (format_block (decode image).n f) reply

-- What a declined offer by format leaves.
pub format_decline_leaves : (image : List ℕ) (f : FormatOrder) (reply : List ℕ) → (format_number image f reply ≡ 0 → ⊥) → (offer_format_call image f reply).image ≡ image
unfolding offer_format_call result
format_decline_leaves image f reply declined = rw (ne_eqb (format_number image f reply) 0 declined)
