-- The order of tuples is that of the key.
use Rattle.std.proofs.Common.{◌∙◌}
use Rattle.tick.specs.Selection.{key_of}
use Rattle.tick.proofs.selection.CandidateLaws.{tuples_lem}
use Rattle.tick.proofs.selection.precedes.Goals as goal

pub returns : goal.returns
unfolding key_of
returns c = c.lt.ensures ∙ tuples_lem _ _ _ _ _ _
