use Rattle.std.proofs.Common.{refl, sym}
use Rattle.model.specs.Lists.{is_zero, all, concat, upward}
use Rattle.lists.proofs.Tests.{all-rows}
use Rattle.soundness.proofs.zeros.services_zero.Goals as goal

pub loop-i-init : goal.loop-i-init
unfolding all concat upward
loop-i-init c = refl

pub loop-i-preserved : goal.loop-i-preserved
loop-i-preserved c = rw (c.loop-i.invariant, c.service_zero-holds.ensures) (sym (all-rows is_zero c.loop-i.i _))
