-- Each entry by itself.
use Rattle.std.proofs.Common.{rules, ◌∙◌}
use Rattle.lists.proofs.Eights.{eight_upward}
use Rattle.lists.proofs.Maxima.{larger_places}
use Rattle.admission.proofs.interference.larger_row.Goals as goal

pub returns : goal.returns
returns c =
    eight_upward _ _ (search rules) (search rules) (search rules) (search rules) (search rules) (search rules) (search rules) (search rules) (search rules)
    ∙ larger_places 8 c.args.a c.args.b (search rules) (search rules)
