-- The three rows. The search finds this alone, and stops at a limit where one of them is another.
use Rattle.soundness.proofs.row_limits.Limits.new.Goals as goal

pub invariant_of-result : goal.invariant_of-result
invariant_of-result c = record { made = (c.requires.1, c.first_places.ensures, c.first_places-2.ensures, c.first_places-3.ensures) }
