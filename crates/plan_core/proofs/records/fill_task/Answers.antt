-- The verdict is by the response.
use Rattle.plan_model.specs.Plan.{with_figures}
use Rattle.plan_core.proofs.records.fill_task.Goals as goal

pub returns : goal.returns
unfolding with_figures
returns c = rw c.verdict-x.ensures
