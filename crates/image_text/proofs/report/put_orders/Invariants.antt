-- The lines so far are printed.
use Rattle.text.proofs.PrintedRows.{Rows}
use Rattle.image_text.specs.Report.{order_line}
use Rattle.image_text.proofs.report.put_orders.Given as goal

abbrev pub invariant-loop-o : goal.invariant-loop-o
invariant-loop-o l = Rows (λ k. order_line l.n) l.orders l.fn.text l.o-index l.text
