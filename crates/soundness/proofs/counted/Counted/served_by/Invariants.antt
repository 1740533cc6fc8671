-- The marks so far are those of the records so far.
use Rattle.std.proofs.Common.{◌≡◌}
use Rattle.model.specs.Image.{services_of, orders_of}
use Rattle.soundness.specs.Services.{served_by}
use Rattle.soundness.proofs.counted.Counted.served_by.Given as goal

abbrev pub invariant-loop-i : goal.invariant-loop-i
invariant-loop-i l = l.served ≡ served_by (services_of l.self.image.now) (orders_of l.self.image.now l.i)
