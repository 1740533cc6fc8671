-- The entries so far from place n on are idle.
use Rattle.std.proofs.Common.{◌≡◌, take, drop}
use Rattle.model.specs.Lists.{all}
use Rattle.model.specs.Soundness.{is_idle}
use Rattle.soundness.proofs.counted.Counted.idle_beyond.Given as goal

abbrev pub invariant-loop-k : goal.invariant-loop-k
invariant-loop-k l = l.holds ≡ all is_idle (drop l.self.n (take l.k l.e-items))
