-- The three rows.
use Rattle.model.specs.Soundness.{record_zero_beyond}
use Rattle.soundness.proofs.rows.RowLaws.{numbers_beyond}
use Rattle.soundness.proofs.records.record_zero_beyond.Goals as goal

pub returns : goal.returns
unfolding record_zero_beyond
returns c =
    let n = c.args.n in
    let o = c.args.o in
    rw (numbers_beyond n o.ranks c.zero_beyond.ensures, numbers_beyond n o.costs c.zero_beyond-2.ensures, numbers_beyond n o.maxima c.zero_beyond-3.ensures)
