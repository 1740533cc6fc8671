-- The first k words are numbers, and stand in the array; `left` are the words after them.
use Rattle.text.specs.Parts.{space, parts_after}
use Rattle.text.proofs.numbers.LineLaws.{Reading}
use Rattle.text.proofs.numbers.numbers_in.Given as goal

abbrev pub invariant-loop-k : goal.invariant-loop-k
invariant-loop-k g l = Reading l.most l.line g.row.N l.numbers (parts_after space l.left) l.k
