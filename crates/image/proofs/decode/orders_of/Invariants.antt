-- The entries so far are the first records.
use mathlib.Core.Path.{◌≡◌}
use lib.ListN.{length, take}
use Rattle.model.specs.Image.{orders_of}
use Rattle.image.proofs.decode.orders_of.Given as goal

abbrev pub invariant-loop-i : goal.invariant-loop-i
invariant-loop-i l = (length l.order-items ≡ l.live) × (take l.i l.order-items ≡ orders_of l.image l.i)
