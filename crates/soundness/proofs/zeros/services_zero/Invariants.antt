-- The rows so far are zero: with one row more the test is the one so far and that of the row.
use Rattle.std.proofs.Common.{◌≡◌}
use Rattle.model.specs.Lists.{is_zero, all, concat, upward}
use Rattle.soundness.specs.Zeros.{service_zeros}
use Rattle.soundness.proofs.zeros.services_zero.Given as goal

abbrev pub invariant-loop-i : goal.invariant-loop-i
invariant-loop-i l = l.holds ≡ all is_zero (concat (upward 0 l.i (service_zeros l.image)))
