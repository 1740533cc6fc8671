-- The counts first, then the other clauses in turn.
use mathlib.Core.Path.{ap, ◌∙◌}
use native.Mathlib.Omega.{arith}
use Rattle.image_text.specs.FirstFlaw.{first_failing}
use Rattle.image_text.proofs.first_flaw.FirstLaws.{count_flaw, live_flaw, later_flaw}
use Rattle.image_text.proofs.first_flaw.first_flaw.Goals as goal

pub returns-then-n : goal.returns-then-n
returns-then-n c = count_flaw _ c.from-n.ensures c.if-n.true

pub returns-then-live-gt-MAX_LIVE : goal.returns-then-live-gt-MAX_LIVE
returns-then-live-gt-MAX_LIVE c = live_flaw _ c.from-n.ensures c.if-n.false (omega arith)

pub returns : goal.returns
returns c = c.first_failing.ensures ∙ ap first_failing c.later_clauses.ensures ∙ later_flaw _ c.from-n.ensures c.if-n.false (omega arith)
