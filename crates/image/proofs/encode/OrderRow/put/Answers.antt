-- Five stores, one after the other.
use mathlib.Core.Path.{◌≡◌}
use native.Mathlib.Omega.{arith}
use lib.ListN.{length, length-append}
use borrow.Author.Rules.{rules}
use Rattle.lists.proofs.Stores.{stored_then}
use Rattle.model.specs.Image.{order_bytes}
use Rattle.image.proofs.encode.OrderRow.put.Goals as goal

pub returns-clause-stored : goal.returns-clause-stored
unfolding order_bytes
returns-clause-stored c =
    let ranks_long : length c.args.self.ranks ≡ 8 = search rules in
    let costs_long : length c.args.self.costs ≡ 8 = search rules in
    let maxima_long : length c.args.self.maxima ≡ 8 = search rules in
    let head = stored_then c.put_order_head.ensures (omega arith) c.put.ensures in
    let costs = stored_then head (omega arith) c.put_rows.ensures.stored in
    let maxima = stored_then costs (simp length-append (omega (arith, c.put_rows.ensures.long))) c.put_rows-2.ensures.stored in
    stored_then maxima (simp length-append (omega (arith, c.put_rows.ensures.long, c.put_rows-2.ensures.long))) c.put_u32.ensures
