-- The table's entry at the format's place.
use Rattle.admission.proofs.formats.FormatLaws.{side_at}
use Rattle.admission.proofs.formats.long_side.Goals as goal

pub returns : goal.returns
returns c = side_at c.args.format c.requires.0
