use Rattle.std.proofs.Common.{sym, ap, ◌∙◌}
use Rattle.model.specs.Lists.{upward}
use Rattle.model.specs.Layout.{record_part}
use Rattle.model.specs.Image.{order_of, services_of, orders_of}
use Rattle.lists.proofs.Fills.{upward-more}
use Rattle.soundness.specs.Services.{served_by}
use Rattle.soundness.proofs.services.Marks.{length_services, served_none, served_more}
use Rattle.soundness.proofs.counted.Counted.served_by.Goals as goal

pub loop-i-init : goal.loop-i-init
unfolding upward
loop-i-init c = served_none _ (length_services c.args.self.image.now)

pub loop-i-preserved : goal.loop-i-preserved
loop-i-preserved c =
    let image = c.args.self.image.now in
    let i = c.loop-i.i in
    let services = services_of image in
    c.mark.ensures
    ∙ rw (c.loop-i.invariant, c.order_at.ensures) (served_more services (length_services image) (orders_of image i) (order_of (record_part image i)))
    ∙ ap (served_by services) (sym (upward-more i (λ k. order_of (record_part image k))))
