-- A declined advance has another number than the 0 that a line records.
use borrow.Author.Tests.{ne_eqb}
use Rattle.model.specs.Calls.{advance_call}
use Rattle.log_model.specs.Rerun.{lent_reply, agrees, DeclinedDisagrees}

pub declined_disagrees : DeclinedDisagrees
unfolding agrees
declined_disagrees image ticket declined = rw (ne_eqb (advance_call image lent_reply).number 0 declined)
