-- The three tests.
use Rattle.soundness.proofs.rows.RowLaws.{numbers_beyond}
use Rattle.admission.proofs.block.fits.Goals as goal

pub returns : goal.returns
returns c =
    let b = c.args.b in
    rw (c.costs_in_range.ensures, numbers_beyond c.args.n b.costs c.zero_beyond.ensures, numbers_beyond c.args.n b.ranks c.zero_beyond-2.ensures)
