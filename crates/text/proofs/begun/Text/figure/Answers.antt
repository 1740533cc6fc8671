use Rattle.text.proofs.Printing.{◌then◌}
use Rattle.text.proofs.begun.Text.figure.Goals as goal

pub returns : goal.returns
returns c = c.bytes.ensures then c.decimal.ensures
