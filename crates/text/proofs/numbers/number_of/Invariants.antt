-- The digits so far have this value.
use Rattle.text.proofs.parts.DigitLaws.{Digits}
use Rattle.text.proofs.numbers.number_of.Given as goal

abbrev pub invariant-loop-b : goal.invariant-loop-b
invariant-loop-b l = Digits l.word l.value l.b-index
