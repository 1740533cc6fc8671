use Rattle.text.proofs.Printing.{◌then◌}
use Rattle.image_text.proofs.report.put_figure_line.Goals as goal

pub returns : goal.returns
returns c = rw c.from.ensures at (c.figure.ensures then c.byte.ensures)
