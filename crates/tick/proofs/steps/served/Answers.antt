-- The steps in turn, each by what it ensures.
use Rattle.tick.proofs.steps.ServedLaws.{queue, put_together}
use Rattle.tick.proofs.steps.served.Goals as goal

pub started-begun-requires : goal.started-begun-requires
started-begun-requires c = rw c.from.ensures (queue c.requires)

pub returns : goal.returns
returns c = put_together _ c.from.ensures c.started-begun.ensures c.tick_all.ensures
