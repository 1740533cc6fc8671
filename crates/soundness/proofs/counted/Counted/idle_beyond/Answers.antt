use Rattle.std.proofs.Common.{◌≡◌, length, sym, ◌∙◌, ap, arith}
use Rattle.model.specs.State.{idle}
use Rattle.model.specs.Soundness.{is_idle}
use Rattle.lists.proofs.Tests.{none_beyond, all-beyond}
use Rattle.soundness.proofs.services.Marks.{length_services}
use Rattle.soundness.proofs.counted.Counted.idle_beyond.Goals as goal

pub loop-k-init : goal.loop-k-init
loop-k-init c = none_beyond is_idle c.args.self.n

pub loop-k-preserved : goal.loop-k-preserved
loop-k-preserved c =
    let services = c.services_of.result in
    let long : length services ≡ 8 = ap length c.services_of.ensures ∙ length_services _ in
    rw (c.loop-k.invariant, c.idle.ensures) (sym (all-beyond is_idle idle c.args.self.n services c.loop-k.k (omega arith)))
