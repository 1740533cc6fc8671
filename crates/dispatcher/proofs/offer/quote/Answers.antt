-- The first "no" of questions 2 to 5, or what the block comes to.
use mathlib.Core.Path.{sym}
use Rattle.std.proofs.lemmas.Result.{err_from_is_err_and}
use Rattle.dispatcher.proofs.replies.Declines.{refused}
use Rattle.dispatcher.proofs.offer_parts.OfferLaws.{sound_lem, three_no, three_yes, quote_taken_lem, quote_declined}
use Rattle.dispatcher.proofs.offer.quote.Goals as goal

pub returns-in_err-image : goal.returns-in_err-image
returns-in_err-image c =
    let p = err_from_is_err_and c.from_residual.result c.from_residual.ensures.1 in
    rw (p.1, p.2) (λ reply whole. quote_declined _ _ reply whole _ (three_no _ _ _ c.in_err-image.ensures.number (refused _)) (refused _))

pub returns-in_err-block : goal.returns-in_err-block
returns-in_err-block c =
    let p = err_from_is_err_and c.from_residual-in_err-block.result c.from_residual-in_err-block.ensures.1 in
    rw (p.1, p.2) (λ reply whole. quote_declined _ _ reply whole _ (three_yes _ _ _ (sym c.in_ok-image.ensures.number) c.in_err-block.ensures.number) (refused _))

pub quoted-requires : goal.quoted-requires
quoted-requires c = rw c.in_ok-image.ensures.bytes (sound_lem _ (sym c.in_ok-image.ensures.number))

pub returns : goal.returns
returns c = λ reply whole.
    let zero = sym (three_yes _ _ 0 (sym c.in_ok-image.ensures.number) c.in_ok-block.ensures.number) in
    rw (← quote_taken_lem _ _ reply whole zero, ← c.in_ok-block.ensures.block) (rw c.in_ok-image.ensures.bytes at (c.quoted.ensures reply whole))
