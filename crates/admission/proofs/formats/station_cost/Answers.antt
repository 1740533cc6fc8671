-- The library's sum that stops at the largest number of two bytes, and its quotient rounded up.
use mathlib.Core.Path.{◌∙◌}
use Rattle.lists.proofs.Rounding.{up_ceil}
use Rattle.admission.proofs.formats.FormatLaws.{held_least}
use Rattle.admission.proofs.formats.station_cost.Goals as goal

pub returns : goal.returns
returns c = rw (c.div_ceil.ensures, up_ceil c.args.side c.args.speed c.requires) at c.saturating_add.ensures ∙ held_least _
