-- The loop keeps the clause of the tickets so far and the last of them.
use Rattle.soundness.proofs.Rising.{Passed}
use Rattle.soundness.proofs.counted.Counted.tickets_in_order.Given as goal

abbrev pub invariant-loop-i : goal.invariant-loop-i
invariant-loop-i l = Passed l.image l.next l.i l.holds l.last
