-- The first "no" of questions 2 to 5, 19 and 20, or what the block comes to.
use mathlib.Core.Path.{sym}
use Rattle.std.proofs.lemmas.Result.{err_from_is_err_and}
use Rattle.admission.specs.Formats.{said}
use Rattle.dispatcher.proofs.replies.Declines.{refused}
use Rattle.dispatcher.proofs.offer_parts.OfferLaws.{sound_lem, three_no, three_yes}
use Rattle.dispatcher.proofs.format_parts.SheetLaws.{readable, quote_taken_lem, quote_declined}
use Rattle.dispatcher.proofs.format_parts.HeldLaws.{quote_held}
use Rattle.dispatcher.proofs.format.quote.Goals as goal

pub returns-in_err-image : goal.returns-in_err-image
returns-in_err-image c =
    let p = err_from_is_err_and c.from_residual.result c.from_residual.ensures.1 in
    rw (p.1, p.2) (λ reply whole. quote_declined _ (said c.args.order) reply whole _ (three_no _ _ _ c.in_err-image.ensures.number (refused _)) (refused _))

pub format_block-requires : goal.format_block-requires
format_block-requires c = rw c.in_ok-image.ensures.bytes (sound_lem _ (sym c.in_ok-image.ensures.number))

pub returns-in_err-block : goal.returns-in_err-block
returns-in_err-block c =
    let p = err_from_is_err_and c.from_residual-in_err-block.result c.from_residual-in_err-block.ensures.1 in
    rw (p.1, p.2) (λ reply whole.
    quote_declined _ (said c.args.order) reply whole _ (three_yes _ _ _ (sym c.in_ok-image.ensures.number) (rw c.in_ok-image.ensures.bytes at c.in_err-block.ensures.number)) (refused _))

pub quoted-requires : goal.quoted-requires
quoted-requires c = rw c.in_ok-image.ensures.bytes (sound_lem _ (sym c.in_ok-image.ensures.number))

pub returns : goal.returns
returns c = λ reply whole.
    let order = said c.args.order in
    let early = rw c.in_ok-image.ensures.bytes at c.in_ok-block.ensures.number in
    let zero = sym (three_yes _ _ 0 (sym c.in_ok-image.ensures.number) early) in
    let ok = sound_lem _ (sym c.in_ok-image.ensures.number) in
    rw (← quote_taken_lem _ order reply whole zero, ← quote_held _ order reply (readable _ order ok (sym early)))
    (rw (c.in_ok-block.ensures.block, c.in_ok-image.ensures.bytes) at (c.quoted.ensures reply whole))
