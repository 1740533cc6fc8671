-- The order that is read is the next one; it has a ticket and is at one of the stations.
use Rattle.std.proofs.Common.{◌≡◌, rules, ◌<◌, ◌≤◌, length, arith}
use borrow.Author.Tests.{le-leb, lt-leb}
use Rattle.model.specs.Limits.{max_live}
use Rattle.tick.proofs.leaving.LeaveLaws.{none_yet, few_of, room_for, below, next_read, placed_here, one_stays, one_out, all_moved}
use Rattle.tick.proofs.leaving.put_remaining.Goals as goal
use Rattle.tick.proofs.leaving.put_remaining.Goals.{then-m-n, else-m-n}

pub loop-i-init : goal.loop-i-init
loop-i-init c = none_yet _ c.requires _

-- The place is that of a record.
pub order_at-o-requires : goal.order_at-o-requires
order_at-o-requires c = omega (arith, room_for c.args.image.now c.args.live c.requires)

pub overflow_sub-o : goal.overflow_sub-o
overflow_sub-o c = (placed_here _ _ c.requires (search rules) c.loop-i.invariant c.loop-i-test.true c.order_at-o.ensures).low

pub bounds-services-o : goal.bounds-services-o
bounds-services-o c =
    let here = placed_here _ _ c.requires (search rules) c.loop-i.invariant c.loop-i-test.true c.order_at-o.ensures in
    omega (arith, here.high, here.low)

pub moved-m-requires : goal.moved-m-requires
moved-m-requires c = (placed_here _ _ c.requires (search rules) c.loop-i.invariant c.loop-i-test.true c.order_at-o.ensures).high

pub put_order-requires : goal.put_order-requires
put_order-requires c =
    let within : c.loop-i.i < max_live = omega (arith, room_for c.args.image.now c.args.live c.requires) in
    let few : c.loop-i.kept ≤ c.loop-i.i = few_of c.args.image.now c.args.live c.requires c.loop-i.auto.i-end c.loop-i.invariant in
    let whole : length c.loop-i.image ≡ 2128 = search rules in
    omega arith

pub loop-i-preserved : goal.loop-i-preserved
loop-i-preserved c =
    let so_far = c.loop-i.invariant in
    let live = c.args.live in
    let more = below c.args.image.now live c.requires _ c.loop-i-test.true in
    let next = next_read c.args.image.now live c.requires (search rules) so_far c.loop-i-test.true c.order_at-o.ensures in
    let station = c.moved-m.result.station in
    elim c.if-m-n.branch [
      | then-m-n w ↦ rw (w.image-is, w.kept-is) (one_stays _ c.requires so_far more next c.moved-m.ensures (le-leb station c.args.n w.if-m-n.true) w.put_order.ensures.0 w.put_order.ensures.1)
      | else-m-n w ↦ rw (w.image-is, w.kept-is) (one_out _ c.requires so_far more next c.moved-m.ensures (lt-leb station c.args.n w.if-m-n.false))
    ]

pub returns : goal.returns
returns c =
    let e : c.loop-i.i ≡ c.args.live = omega arith in
    all_moved _ _ (rw e at c.loop-i.invariant)
