use native.Mathlib.Omega.{arith}
use Rattle.text.proofs.PrintedRows.{rows_none, rows_more, mapped_room, mapped_all}
use Rattle.image_text.specs.Report.{spaced}
use Rattle.image_text.proofs.report.put_spaced.Goals as goal

pub loop-v-init : goal.loop-v-init
loop-v-init c = rows_none _ _ _

pub figure-requires : goal.figure-requires
unfolding spaced
figure-requires c = rw c.from.ensures (mapped_room _ c.loop-v.invariant (omega arith) c.requires)

pub loop-v-preserved : goal.loop-v-preserved
loop-v-preserved c = rows_more _ c.loop-v.invariant (rw c.from.ensures at c.figure.ensures) (omega arith)

pub returns : goal.returns
unfolding spaced
returns c = mapped_all c.loop-v.invariant (omega arith)
