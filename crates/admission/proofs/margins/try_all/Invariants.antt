-- The sum, the maxima and the smallest margin of the orders tried so far.
use mathlib.Core.Path.{◌≡◌}
use mathlib.Core.List.{◌∷◌}
use Prim.Native.Nat.{◌<◌, ◌+◌, ◌*◌}
use lib.ListN.{length, get_or}
use lib.IntN.{pos}
use Rattle.model.specs.Lists.{upward}
use Rattle.model.specs.DelayBound.{sum_of, maxima_of}
use Rattle.model.specs.DelayBound as delay
use Rattle.model.specs.Admission.{joined_by, smallest}
use Rattle.lists.proofs.Fills.{past}
use Rattle.admission.proofs.margins.try_all.Given as goal

abbrev pub invariant-loop-o : goal.invariant-loop-o
invariant-loop-o l =
    record {
      short : l.sum < 65536 * (l.o-index + 1);
      long : length l.maxima ≡ 8;
      sum_is : l.sum ≡ sum_of (l.b.costs ∷ upward 0 l.o-index (λ k. (get_or l.orders k past).costs));
      maxima_is : l.maxima ≡ maxima_of (l.b.costs ∷ upward 0 l.o-index (λ k. (get_or l.orders k past).costs));
      least_is : l.least ≡ smallest (pos 2147483647) (upward 0 l.o-index (λ k. delay.margin l.limits.n (joined_by l.b (get_or l.orders k past))));
    }
