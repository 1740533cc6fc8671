-- Four stores, one after the other, that fill the reply.
use mathlib.Core.Path.{◌≡◌, refl, ap, ◌∙◌}
use native.Mathlib.Omega.{arith}
use lib.IntN.{ℤ, pos, negsuc}
use mir.Syntax.{w32}
use mir.Val.{to_z, of_z}
use mir.Facts.{to_z-of_z}
use borrow.Author.Rules.{rules}
use Rattle.model.specs.Bytes.{four_bytes, bits32}
use Rattle.model.specs.Questions.{reply_bytes}
use Rattle.lists.proofs.Stores.{stored_then, stored_all}
use Rattle.dispatcher.proofs.replies.put_reply.Goals as goal

bits_are : (z : ℤ) → of_z w32 z ≡ bits32 z
bits_are (pos n) = refl
bits_are (negsuc n) = omega arith

pub returns : goal.returns
unfolding reply_bytes
returns c =
    let margin_is : c.cast_unsigned.result ≡ bits32 c.args.given.margin = c.cast_unsigned.ensures ∙ bits_are (to_z w32 (of_z w32 c.args.given.margin)) ∙ ap bits32 (to_z-of_z {w = w32} {z = c.args.given.margin} (search rules)) in
    stored_all
    (stored_then (stored_then (stored_then c.put_u32.ensures (omega arith) c.put_u32-2.ensures) (omega arith) c.put_u32-3.ensures) (omega arith) c.put_u32-4.ensures)
    (omega arith)
    ∙ rw margin_is
