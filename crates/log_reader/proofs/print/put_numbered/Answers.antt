-- `put_numbered` prints words, a number and a line feed.
use Rattle.text.proofs.Printing.{◌then◌}
use Rattle.log_reader.proofs.print.put_numbered.Goals as goal

pub returns : goal.returns
returns c = c.figure.ensures then c.byte.ensures
