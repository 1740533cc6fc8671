use native.Mathlib.Omega.{arith}
use Rattle.text.proofs.PrintedRows.{rows_none, rows_more, mapped_room, mapped_all}
use Rattle.image_text.specs.Report.{order_lines}
use Rattle.image_text.proofs.report.put_orders.Goals as goal

pub loop-o-init : goal.loop-o-init
loop-o-init c = rows_none _ _ _

pub put_order-requires : goal.put_order-requires
unfolding order_lines
put_order-requires c = (c.requires.0, mapped_room _ c.loop-o.invariant (omega arith) c.requires.1)

pub loop-o-preserved : goal.loop-o-preserved
loop-o-preserved c = rows_more _ c.loop-o.invariant c.put_order.ensures (omega arith)

pub returns : goal.returns
unfolding order_lines
returns c = mapped_all c.loop-o.invariant (omega arith)
