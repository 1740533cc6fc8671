-- `occupied` goes through the records that an image has: the loop has found the stations of the first i orders.
use mathlib.Core.Path.{◌≡◌}
use Rattle.model.specs.Image.{orders_of}
use Rattle.log_model.specs.Reading.{occupied}
use Rattle.log_lines.proofs.counts.occupied.Given as goal

abbrev pub invariant-loop-i : goal.invariant-loop-i
invariant-loop-i l = l.here ≡ occupied (orders_of l.image l.i)
