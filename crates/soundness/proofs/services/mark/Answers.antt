-- An order marks its own station where the entry there has its ticket, and else none.
use Rattle.std.proofs.Common.{◌≡◌, ◌-◌, length, rules}
use Rattle.model.specs.Image.{services_of}
use Rattle.soundness.proofs.services.Marks.{place, length_services, entry_is, marked_none, marked_ticket, marked_other}
use Rattle.soundness.proofs.services.mark.Goals as goal

pub returns-then-o-e : goal.returns-then-o-e
returns-then-o-e c =
    let image = c.args.image.now in
    let all_eight : length c.args.served.now ≡ 8 = search rules in
    let own = entry_is image (c.args.o.station - 1) (place _ c.if-o.true) c.service_at-e.ensures in
    marked_ticket (services_of image) (length_services image) c.args.served.now all_eight c.args.o own c.if-o.true c.if-o-e.true

pub returns-else-o-e : goal.returns-else-o-e
returns-else-o-e c =
    let image = c.args.image.now in
    let all_eight : length c.args.served.now ≡ 8 = search rules in
    let own = entry_is image (c.args.o.station - 1) (place _ c.if-o.true) c.service_at-e.ensures in
    marked_other (services_of image) (length_services image) c.args.served.now all_eight c.args.o own c.if-o.true c.if-o-e.false

pub returns-else-o : goal.returns-else-o
returns-else-o c =
    let image = c.args.image.now in
    let all_eight : length c.args.served.now ≡ 8 = search rules in
    marked_none (services_of image) (length_services image) c.args.served.now all_eight c.args.o c.if-o.false
