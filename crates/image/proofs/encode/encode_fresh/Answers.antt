-- The header, and zeros to the end.
use mathlib.Core.Path.{◌≡◌, ap}
use Prim.Native.Nat.{ℕ}
use lib.ListN.{length, replicate}
use borrow.Author.Rules.{rules}
use Rattle.model.specs.Layout.{image_size}
use Rattle.lists.proofs.Stores.{stored_same}
use Rattle.image.proofs.encode.Rows.{after_header, fresh_encoded}
use Rattle.image.proofs.encode.encode_fresh.Goals as goal

pub returns : goal.returns
returns c =
    let lent : length c.args.image.now ≡ image_size = search rules in
    let long : length c.put_header.new.image ≡ image_size = search rules in
    fresh_encoded lent c.put_header.ensures (stored_same c.put_zeros.ensures (ap (λ (n : ℕ). replicate n 0) (after_header (length c.put_header.new.image) long)))
