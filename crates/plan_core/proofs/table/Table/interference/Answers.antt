use mathlib.Core.Path.{◌≡◌, ap}
use Prim.Native.Nat.{◌<◌}
use native.Mathlib.Omega.{arith}
use lib.ListN.{length}
use Rattle.lists.proofs.Tests.{all-at}
use Rattle.plan_core.specs.Ranged.{ranged}
use Rattle.plan_core.proofs.response.StepLaws.{none_add, own_adds, other_adds}
use Rattle.plan_core.proofs.table.Rows.{none}
use Rattle.plan_core.proofs.table.Table.interference.Goals as goal
use Rattle.plan_core.proofs.table.Table.interference.Goals.{then-i-t, else-i-t}

pub loop-i-init : goal.loop-i-init
loop-i-init c = (none_add c.args.self.now.rows.items c.args.t c.args.r, omega arith)

pub share-sum-requires : goal.share-sum-requires
share-sum-requires c =
    let lent = c.as_slice-row-items.ensures.value in
    let rows = c.args.self.now.rows.items in
    let less : c.loop-i.i < length rows = omega (arith, ap length lent) in
    (c.requires, rw lent (all-at ranged none rows c.loop-i.i less c.args.self.now.ranged))

pub loop-i-preserved : goal.loop-i-preserved
loop-i-preserved c =
    let rows = c.args.self.now.rows.items in
    let lent = c.as_slice-row-items.ensures.value in
    let i = c.loop-i.i in
    let less : i < length rows = omega (arith, ap length lent) in
    elim c.if-i-t.branch [
      | then-i-t w ↦ omega (arith, w.sum-is, w.share-sum.ensures.0, w.share-sum.ensures.1, rw lent at w.share-sum.ensures.0, other_adds rows c.args.t none i c.args.r less w.if-i-t.true)
      | else-i-t w ↦ omega (arith, w.sum-is, own_adds rows c.args.t none i c.args.r less w.if-i-t.false)
    ]
