use Rattle.text.proofs.Printing.{◌then◌}
use Rattle.image_text.specs.Report.{head_lines}
use Rattle.image_text.proofs.report.put_head.Goals as goal

pub returns : goal.returns
unfolding head_lines
returns c = rw c.from.ensures at (c.put_figure_line.ensures then c.put_figure_line-2.ensures then c.put_figure_line-3.ensures)
