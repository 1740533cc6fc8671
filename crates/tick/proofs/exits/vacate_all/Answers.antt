use Rattle.std.proofs.Common.{rules}
use Rattle.model.specs.Tick.{vacate}
use Rattle.lists.proofs.Arrays.{mapped}
use Rattle.tick.proofs.exits.vacate_all.Goals as goal

pub returns : goal.returns
returns c = mapped vacate (search rules) c.map.ensures.items (λ p x y q k. search rules)
