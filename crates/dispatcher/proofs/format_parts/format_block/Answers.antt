-- The sheet and the format decide, and with no "no" the block is that of the order.
use mathlib.Core.Path.{◌≡◌, sym, ◌∙◌}
use borrow.Author.Rules.{rules}
use Prim.Native.Nat.{ℕ}
use Rattle.std.proofs.lemmas.Result.{err_from_is_err_and}
use Rattle.model.specs.Image.{decode}
use Rattle.image_laws.proofs.Read.{decode_n}
use Rattle.admission.specs.Formats.{said}
use Rattle.dispatcher.proofs.format_parts.SheetLaws.{readable}
use Rattle.dispatcher.proofs.format_parts.format_block.Goals as goal

pub returns-in_err-sheet_answer : goal.returns-in_err-sheet_answer
returns-in_err-sheet_answer c =
    let n_is : c.from-n.result ≡ (decode c.args.image.now).n = c.from-n.ensures ∙ decode_n _ in
    let p = err_from_is_err_and c.from_residual.result c.from_residual.ensures.1 in
    rw (p.1, p.2) (record { number = rw n_is at c.in_err-sheet_answer.ensures; block = search rules })

pub block-requires : goal.block-requires
block-requires c =
    let n_is : c.from-n.result ≡ (decode c.args.image.now).n = c.from-n.ensures ∙ decode_n _ in
    rw n_is (readable _ (said c.args.order) c.requires (rw n_is at (sym c.in_ok-sheet_answer.ensures)))

pub returns : goal.returns
returns c =
    let n_is : c.from-n.result ≡ (decode c.args.image.now).n = c.from-n.ensures ∙ decode_n _ in
    record { number = rw n_is at c.in_ok-sheet_answer.ensures; block = rw n_is at c.block.ensures }
