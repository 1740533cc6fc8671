use Rattle.text.proofs.Printing.{◌then◌}
use Rattle.image_text.specs.Report.{clause_line}
use Rattle.image_text.proofs.report.put_clause.Goals as goal

pub returns : goal.returns
unfolding clause_line
returns c = c.bytes.ensures then c.bytes-2.ensures then c.byte.ensures
