-- Four stores, one after the other, that fill the image.
use mathlib.Core.Path.{◌≡◌, ap}
use Prim.Native.Nat.{ℕ}
use native.Mathlib.Omega.{arith}
use lib.ListN.{length, replicate}
use lib.Seq.{length-take-le}
use borrow.Author.Rules.{rules}
use Rattle.model.specs.Layout.{image_size}
use Rattle.lists.proofs.Stores.{stored_same}
use Rattle.lists.proofs.Fills.{length_mapped}
use Rattle.image.proofs.encode.Rows.{unused_count, encoded}
use Rattle.image.proofs.encode.encode.Goals as goal

pub returns : goal.returns
returns c =
    let orders_long : length c.args.p.orders ≡ 32 = search (rules, length_mapped) in
    let long : length c.args.image.now ≡ image_size = search rules in
    let p = c.args.p in
    let live = c.from-live.ensures in
    let orders = rw live at c.put_rows.ensures in
    let zeros = rw live at c.put_zeros.ensures in
    encoded p c.requires orders_long long c.put_header.ensures c.put_services.ensures.0 c.put_services.ensures.1 orders.stored (rw (length-take-le p.live p.orders (omega arith)) at orders.long)
    (stored_same zeros (ap (λ (n : ℕ). replicate n 0) (unused_count _ p.live (omega arith))))
