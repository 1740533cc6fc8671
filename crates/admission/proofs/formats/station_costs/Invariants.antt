-- A row of zeros, of which the first entries are filled.
use mathlib.Core.Path.{◌≡◌}
use mathlib.Core.List.{◌++◌}
use Prim.Native.Nat.{◌+◌, ◌-◌}
use lib.ListN.{get_or, replicate}
use Rattle.model.specs.Lists.{rounded_up, upward}
use Rattle.admission.specs.Formats.{held_cost}
use Rattle.admission.proofs.formats.station_costs.Given as goal

abbrev pub invariant-loop-k : goal.invariant-loop-k
invariant-loop-k l = l.row ≡ upward 0 l.k (λ i. held_cost (get_or l.fixed i 0 + rounded_up l.side (get_or l.speeds i 0))) ++ replicate (8 - l.k) 0
