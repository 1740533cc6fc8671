-- The first entries are one tick on, the rest as they were.
use Rattle.std.proofs.Common.{◌≡◌, map, ◌++◌, take, drop}
use Rattle.model.specs.Tick.{one_less}
use Rattle.tick.proofs.entries.tick_all.Given as goal

abbrev pub invariant-loop-entry : goal.invariant-loop-entry
invariant-loop-entry l = l.entry-items ≡ map one_less (take l.entry-index l.fn.services) ++ drop l.entry-index l.fn.services
