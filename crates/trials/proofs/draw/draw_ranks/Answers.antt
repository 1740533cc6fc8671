-- Each entry is what its function says.
use Rattle.std.proofs.Common.{rules, get_or, ◌∙◌, refl}
use Rattle.model.specs.Lists.{upward}
use Rattle.lists.proofs.Arrays.{filled_same}
use Rattle.trials.specs.Draw.{rank, ranks}
use Rattle.trials.proofs.Draws.{units}
use Rattle.trials.proofs.draw.draw_ranks.Goals as goal

pub returns : goal.returns
unfolding ranks upward
returns c = filled_same (λ i. rank c.args.s c.args.n i (get_or units i 0)) (λ i y q h k. (search rules, search rules)) c.from_fn.ensures.items ∙ refl
