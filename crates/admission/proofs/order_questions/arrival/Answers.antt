-- Field by field.
use Rattle.admission.specs.Arrival.{arrival_with}
use Rattle.admission.proofs.order_questions.arrival.Goals as goal

pub returns : goal.returns
unfolding arrival_with
returns c = rw c.due_tick.ensures
