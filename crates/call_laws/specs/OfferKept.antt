-- What an offer and a quote leave in the image and in the reply.
use Rattle.std.specs.Prelude.{◌≡◌, List, ◌++◌, ℕ, take, drop}
use Rattle.model.specs.Bytes.{four_bytes}
use Rattle.model.specs.Layout.{reply_ticket_at, reply_tick_at}
use Rattle.model.specs.Image.{decode}
use Rattle.model.specs.Admission.{block_of, accept}
use Rattle.model.specs.Formats.{FormatOrder}
use Rattle.model.specs.Calls.{Result, offer_number, offer_call, quote_call, offer_format_call, quote_format_call}
use Rattle.image_laws.specs.InRange.{byte_limit, Below}
use Rattle.image_laws.specs.SoundImage.{SoundImage}

-- A done offer leaves a whole, marked and sound image, which says the state with the arrival accepted.
abbrev pub OfferKeepsSound : Type 0
OfferKeepsSound =
    (image block reply : List ℕ) → Below byte_limit image → Below byte_limit block → offer_number image block reply ≡ 0
    → SoundImage (offer_call image block reply).image (accept (decode image) (block_of block))

-- "Every decline leaves the image alone."
abbrev pub DeclineLeaves : Type 0
DeclineLeaves = (image block reply : List ℕ) → (offer_number image block reply ≡ 0 → ⊥) → (offer_call image block reply).image ≡ image

-- "Quote gives what offer would give, with ticket 0, and changes nothing in the image." What a quote and an offer of the same order give on the same image.
pub record QuotedAs (image : List ℕ) (quote offer : Result) : Type 0 where
  pub same_number : quote.number ≡ offer.number
  pub image_left : quote.image ≡ image
  -- After 1 the reply is untouched by either.
  pub unheard : offer.number ≡ 1 → quote.reply ≡ offer.reply
  pub same_reply : (offer.number ≡ 1 → ⊥) → quote.reply ≡ take reply_ticket_at offer.reply ++ four_bytes 0 ++ drop reply_tick_at offer.reply

abbrev pub QuoteGivesOffer : Type 0
QuoteGivesOffer = (image block reply : List ℕ) → QuotedAs image (quote_call image block reply) (offer_call image block reply)

-- Of an order by format as well.
abbrev pub FormatQuoteGivesOffer : Type 0
FormatQuoteGivesOffer = (image : List ℕ) (f : FormatOrder) (reply : List ℕ) → QuotedAs image (quote_format_call image f reply) (offer_format_call image f reply)
