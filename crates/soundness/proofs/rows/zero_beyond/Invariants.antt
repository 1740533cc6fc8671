-- The test of the entries so far.
use Rattle.std.proofs.Common.{◌≡◌, take, drop}
use Rattle.model.specs.Lists.{all}
use Rattle.soundness.proofs.rows.zero_beyond.Given as goal

abbrev pub invariant-loop-k : goal.invariant-loop-k
invariant-loop-k g l = l.holds ≡ all (λ x. g.T.PartialEq.eq x l.zero) (drop l.n (take l.k l.x-items))
