use Rattle.std.proofs.Common.{◌≡◌, length, rules, arith}
use Rattle.model.specs.State.{idle}
use Rattle.model.specs.Tick.{one_less}
use Rattle.tick.proofs.entries.StationLaws.{next_replaced}
use Rattle.tick.proofs.entries.tick_all.Goals as goal

pub loop-entry-preserved : goal.loop-entry-preserved
loop-entry-preserved c =
    let long : length c.args.services ≡ 8 = search rules in
    next_replaced one_less idle c.args.services (omega arith) c.loop-entry.invariant c.take_tick.ensures
