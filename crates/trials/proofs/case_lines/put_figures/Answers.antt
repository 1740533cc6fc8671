use Rattle.text.proofs.Printing.{◌then◌}
use Rattle.trials.specs.CaseLines.{reply_figures}
use Rattle.trials.proofs.case_lines.put_figures.Goals as goal

pub returns : goal.returns
unfolding reply_figures
returns c = rw (c.from.ensures, c.from-2.ensures, c.from-3.ensures) at (c.figure.ensures then c.figure-2.ensures then c.figure-3.ensures)
