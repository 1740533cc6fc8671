-- `counted` goes through the stations: the loop has counted for the first k.
use mathlib.Core.Path.{◌≡◌}
use lib.ListN.{take}
use Rattle.log_model.specs.Reading.{counted}
use Rattle.log_lines.proofs.counts.counted.Given as goal

abbrev pub invariant-loop-k : goal.invariant-loop-k
invariant-loop-k l = l.busy ≡ counted (take l.k l.fn.here) l.initial.busy
