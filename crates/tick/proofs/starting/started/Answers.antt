-- The closure leaves the candidates and the entries as they are.
use Rattle.std.proofs.Common.{rules, ◌∙◌, get_or}
use Rattle.model.specs.State.{idle}
use Rattle.lists.proofs.Arrays.{filled_same}
use Rattle.tick.specs.Selection.{nobody}
use Rattle.tick.specs.Starting.{start_with}
use Rattle.tick.proofs.starting.StartLaws.{starts_lem}
use Rattle.tick.proofs.starting.started.Goals as goal

pub returns : goal.returns
returns c =
    filled_same (λ i. start_with (get_or c.candidates-found.result i nobody) (get_or c.args.services i idle)) (λ i y q h k. (search rules, search rules)) c.from_fn.ensures.items
    ∙ starts_lem _ _ _ (search rules) c.candidates-found.ensures
