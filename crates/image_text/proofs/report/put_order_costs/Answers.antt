use Rattle.text.proofs.Printing.{◌then◌}
use Rattle.image_text.specs.Report.{order_costs}
use Rattle.image_text.proofs.report.put_order_costs.Goals as goal

pub returns : goal.returns
unfolding order_costs
returns c = c.bytes.ensures then c.put_spaced.ensures then (c.bytes-2.ensures then c.put_spaced-2.ensures)
