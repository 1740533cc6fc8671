use Rattle.std.proofs.Common.{◌≡◌, arith}
use Rattle.model.specs.Image.{live_count}
use Rattle.soundness.proofs.Rising.{passed_none, passed_more, passed_all}
use Rattle.soundness.proofs.counted.Counted.tickets_in_order.Goals as goal

pub loop-i-init : goal.loop-i-init
loop-i-init c = passed_none _ _

pub loop-i-preserved : goal.loop-i-preserved
loop-i-preserved c = passed_more _ c.loop-i.invariant c.u32_at-ticket.ensures

pub returns : goal.returns
returns c =
    let image = c.args.self.image.now in
    let e : c.loop-i.i ≡ live_count image = omega (arith, c.args.self.orders) in
    passed_all image _ _ (rw (e, c.u32_at-next.ensures) at c.loop-i.invariant)
