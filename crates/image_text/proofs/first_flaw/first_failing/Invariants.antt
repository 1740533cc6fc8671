-- The clauses so far hold.
use Rattle.image_text.proofs.first_flaw.FlawLaws.{Passed}
use Rattle.image_text.proofs.first_flaw.first_failing.Given as goal

abbrev pub invariant-loop-holds : goal.invariant-loop-holds
invariant-loop-holds l = Passed l.clauses l.holds-index
