-- Late from the deadline on.
use borrow.Author.Tests.{le-leb, lt-leb}
use native.Mathlib.Omega.{arith}
use Rattle.plan_model.specs.Response.{verdict_of}
use Rattle.plan_core.proofs.records.verdict.Goals as goal

pub returns-then-from-response : goal.returns-then-from-response
unfolding verdict_of
returns-then-from-response c = rw (le-leb c.args.deadline c.args.response (omega arith))

pub returns-else-from-response : goal.returns-else-from-response
unfolding verdict_of
returns-else-from-response c = rw (lt-leb c.args.deadline c.args.response (omega arith))
