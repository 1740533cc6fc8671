use Rattle.std.proofs.Common.{◌≡◌, length, sym, ◌∙◌, ap, arith}
use lib.Seq.{take_all}
use Rattle.model.specs.State.{idle}
use Rattle.model.specs.Image.{services_of, orders_of, decode}
use Rattle.model.specs.Soundness.{services_in_order}
use Rattle.lists.proofs.Tests.{stations_none, stations_more}
use Rattle.soundness.proofs.services.Marks.{length_services, served_at_lem}
use Rattle.soundness.proofs.counted.Counted.services_in_order.Invariants.{idle_or_served}
use Rattle.soundness.proofs.counted.Counted.services_in_order.Goals as goal

pub loop-k-init : goal.loop-k-init
loop-k-init c = stations_none _ c.args.self.n

pub loop-k-preserved : goal.loop-k-preserved
loop-k-preserved c =
    let image = c.args.self.image.now in
    let orders = orders_of image c.args.self.live in
    let services = services_of image in
    let long : length services ≡ 8 = length_services image in
    let k = c.loop-k.k in
    rw (c.loop-k.invariant, c.idle.ensures, c.served_by-served.ensures, c.services_of.ensures, served_at_lem services long orders k (omega arith))
    (sym (stations_more (idle_or_served orders) idle c.args.self.n services k (omega arith)))

pub returns : goal.returns
unfolding services_in_order decode
returns c =
    let services = c.services_of.result in
    let long : length services ≡ 8 = ap length c.services_of.ensures ∙ length_services _ in
    let e : c.loop-k.k ≡ 8 = omega arith in
    rw (e, take_all 8 services (omega arith), c.services_of.ensures, c.args.self.orders, c.args.self.stations) at c.loop-k.invariant
