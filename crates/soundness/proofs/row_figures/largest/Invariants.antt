-- The largest of the entries so far, of two bytes.
use mathlib.Core.Path.{◌≡◌}
use Prim.Native.Nat.{◌<◌}
use lib.ListN.{take}
use Rattle.model.specs.Lists.{largest}
use Rattle.soundness.proofs.row_figures.largest.Given as goal

abbrev pub invariant-loop-cost : goal.invariant-loop-cost
invariant-loop-cost l = (l.m ≡ largest (take l.cost-index l.cost-items)) × (l.m < 65536)
