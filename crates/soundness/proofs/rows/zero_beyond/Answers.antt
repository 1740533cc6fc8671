use Rattle.std.proofs.Common.{arith, sym}
use Rattle.lists.proofs.Tests.{none_beyond, all-beyond}
use Rattle.soundness.proofs.rows.zero_beyond.Goals as goal

pub loop-k-init : goal.loop-k-init
loop-k-init g c = none_beyond (λ x. g.T.PartialEq.eq x c.default-zero.result) c.args.n

pub loop-k-preserved : goal.loop-k-preserved
loop-k-preserved g c =
    let test = λ (x : g.row.T.Denot). g.T.PartialEq.eq x c.default-zero.result in
    rw (c.loop-k.invariant, c.eq.ensures) (sym (all-beyond test c.x-item.result c.args.n c.args.row c.loop-k.k (omega (arith, c.type_inv.x-items))))
