use native.Mathlib.Omega.{arith}
use Rattle.image_text.proofs.first_flaw.FlawLaws.{passed_none, fails_here, holds_here, all_hold}
use Rattle.image_text.proofs.first_flaw.first_failing.Goals as goal

pub loop-holds-init : goal.loop-holds-init
loop-holds-init c = passed_none _

pub returns-then-not-holds : goal.returns-then-not-holds
returns-then-not-holds c = fails_here c.loop-holds.invariant _ (omega arith) c.if-not-holds.true

pub loop-holds-preserved : goal.loop-holds-preserved
loop-holds-preserved c = holds_here c.loop-holds.invariant _ (omega arith) c.if-not-holds.false

pub returns : goal.returns
returns c = all_hold c.loop-holds.invariant (omega arith)
