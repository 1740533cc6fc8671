-- Order by order.
use Rattle.std.proofs.Common.{take}
use Rattle.model.specs.Image.{orders_of}
use Rattle.tick.specs.Leaving.{Moved}
use Rattle.tick.proofs.leaving.put_remaining.Given as goal

abbrev pub invariant-loop-i : goal.invariant-loop-i
invariant-loop-i l = Moved l.n l.services (take l.i (orders_of l.initial.image l.live)) l.initial.image l.kept l.image
