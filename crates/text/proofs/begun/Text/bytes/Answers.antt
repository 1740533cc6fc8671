-- The part of the buffer that the bytes are copied to is as long as they are.
use mathlib.Core.Path.{refl}
use native.Mathlib.Omega.{arith}
use borrow.Author.Rules.{rules}
use Rattle.lists.proofs.Parts.{stored_mid}
use Rattle.text.proofs.begun.Text.bytes.Goals as goal

pub returns : goal.returns
returns c =
    record {
      put = record { place = refl; bytes = rw c.copy_from_slice.ensures.after (stored_mid _ _ _ _ (omega arith) (omega arith)) };
      room = search rules;
      buffer = search rules;
    }
