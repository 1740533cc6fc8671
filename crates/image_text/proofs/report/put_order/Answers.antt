use Rattle.text.proofs.Printing.{◌then◌}
use Rattle.image_text.specs.Report.{order_line}
use Rattle.image_text.proofs.report.put_order.Goals as goal

pub returns : goal.returns
unfolding order_line
returns c =
    rw c.as_halves.ensures at (c.put_order_figures.ensures then (c.bytes.ensures then c.put_spaced.ensures) then c.put_order_costs.ensures then c.byte.ensures)
