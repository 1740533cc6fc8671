use Rattle.text.proofs.Printing.{◌then◌}
use Rattle.trials.specs.CaseLines.{reply_margin}
use Rattle.trials.proofs.case_lines.put_margin.Goals as goal

pub returns : goal.returns
unfolding reply_margin
returns c = c.bytes.ensures then c.put_signed.ensures
