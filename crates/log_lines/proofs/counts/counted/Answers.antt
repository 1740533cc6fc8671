-- One station more is counted, or keeps its ticks.
use mathlib.Core.Path.{◌∙◌}
use native.Mathlib.Numerals.{add-one}
use lib.Seq.{take_all}
use borrow.Author.Rules.{rules}
use Rattle.log_lines.proofs.counts.CountLaws.{counted_none, counted_next}
use Rattle.log_lines.proofs.counts.counted.Goals as goal
use Rattle.log_lines.proofs.counts.counted.Goals.{then-here, else-here}

pub loop-k-init : goal.loop-k-init
loop-k-init c = counted_none _

pub loop-k-preserved : goal.loop-k-preserved
loop-k-preserved c =
    let next = counted_next c.args.here c.args.busy c.loop-k.k (search rules) in
    rw (add-one, next, ← c.loop-k.invariant) (elim c.if-here.branch [ then-here w ↦ w.busy-is ∙ rw (w.if-here.true, w.one_more.ensures) | else-here w ↦ w.busy-is ∙ rw w.if-here.false ])

pub returns : goal.returns
returns c = c.loop-k.invariant ∙ rw (take_all c.loop-k.k c.args.here (search rules))
