-- Each entry by itself.
use mathlib.Core.Path.{◌∙◌}
use borrow.Author.Rules.{rules}
use Rattle.lists.proofs.Eights.{eight_upward}
use Rattle.admission.proofs.formats.FormatLaws.{same_up_to}
use Rattle.admission.proofs.formats.station_ranks.Goals as goal

pub returns : goal.returns
returns c =
    eight_upward _ _ (search rules) (search rules) (search rules) (search rules) (search rules) (search rules) (search rules) (search rules) (search rules)
    ∙ same_up_to c.args.n c.args.rank
