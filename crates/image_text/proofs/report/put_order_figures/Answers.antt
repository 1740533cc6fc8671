use Rattle.text.proofs.Printing.{◌then◌}
use Rattle.image_text.specs.Report.{order_figures}
use Rattle.image_text.proofs.report.put_order_figures.Goals as goal

pub returns : goal.returns
unfolding order_figures
returns c = rw (c.from.ensures, c.from-2.ensures) at (c.put_order_ticks.ensures then c.figure.ensures then c.figure-2.ensures)
