-- The candidates are those of the orders that were tried.
use Rattle.std.proofs.Common.{take}
use Rattle.tick.proofs.selection.CandidateLaws.{Tried}
use Rattle.tick.proofs.selection.candidates.Given as goal

abbrev pub invariant-loop-o : goal.invariant-loop-o
invariant-loop-o l =
    (goal.iterator-loop-o).can_next l.o-iterator × (goal.iterator-loop-o).is_finite l.o-iterator × Tried l.services (take l.live l.fn.orders) l.o-iterator.iter.rest.now l.found
