-- The flaws and the ranks of the records so far.
use Rattle.std.proofs.Common.{◌≡◌}
use mathlib.Core.Bool.{◌&&◌}
use Rattle.model.specs.Lists.{all, is_zero}
use Rattle.model.specs.Image.{orders_of}
use Rattle.model.specs.Soundness.{zero_beyond}
use Rattle.soundness.specs.Holds.{record_holds}
use Rattle.soundness.proofs.counted.Counted.all_hold.Given as goal

abbrev pub invariant-loop-i : goal.invariant-loop-i
invariant-loop-i l = all (record_holds l.self.n l.clock) (orders_of l.self.image.now l.i) ≡ (all is_zero l.flaws && zero_beyond l.self.n l.ranks)
