-- Three stores, one after the other, that fill the block.
use mathlib.Core.Path.{◌≡◌}
use native.Mathlib.Omega.{arith}
use lib.ListN.{length, length-append}
use borrow.Author.Rules.{rules}
use Rattle.lists.proofs.Stores.{stored_then, stored_all}
use Rattle.image.proofs.encode.Rows.{length-halves}
use Rattle.model.specs.Admission.{block_bytes}
use Rattle.image.proofs.block.order_block.Goals as goal

pub returns : goal.returns
unfolding block_bytes
returns c =
    let ranks_long : length c.args.b.ranks ≡ 8 = search rules in
    let costs_long : length c.args.b.costs ≡ 8 = search rules in
    stored_all
    (stored_then (stored_then c.put_u32.ensures (omega arith) c.put.ensures) (simp length-append (omega arith)) c.put_rows.ensures.stored)
    (simp length-append (omega (arith, length-halves c.args.b.costs)))
