use Rattle.text.proofs.Printing.{◌then◌}
use Rattle.image_text.specs.Report.{order_ticks}
use Rattle.image_text.proofs.report.put_order_ticks.Goals as goal

pub returns : goal.returns
unfolding order_ticks
returns c = rw (c.from.ensures, c.from-2.ensures, c.from-3.ensures) at (c.figure.ensures then c.figure-2.ensures then c.figure-3.ensures)
