use mathlib.Core.Path.{◌≡◌, ap, ◌∙◌}
use native.Mathlib.Omega.{arith}
use borrow.Author.Rules.{rules}
use Rattle.std.proofs.Common.{None}
use Rattle.text.specs.Parts.{space, parts_after}
use Rattle.text.proofs.parts.PartLaws.{parts_some}
use Rattle.text.proofs.numbers.LineLaws.{was_number, was_none, too_few, other_word, reading_more, too_many, all_read}
use Rattle.text.proofs.numbers.numbers_in.Goals as goal

pub returns-in_err-left : goal.returns-in_err-left
returns-in_err-left g c =
    let e : c.from_residual.result ≡ None = search rules in
    e ∙ too_few c.loop-k.invariant (omega arith) (ap (parts_after space) c.in_err-left.was)

pub returns-in_err-numbers : goal.returns-in_err-numbers
returns-in_err-numbers g c =
    let e : c.from_residual-in_err-numbers.result ≡ None = search rules in
    e ∙ other_word c.loop-k.invariant (omega arith) (ap (parts_after space) c.in_ok-left.was ∙ c.first_part.ensures.split) (was_none _ _ c.number_of.ensures c.in_err-numbers.was)

pub loop-k-preserved : goal.loop-k-preserved
loop-k-preserved g c =
    reading_more
    c.loop-k.invariant
    (omega arith)
    (ap (parts_after space) c.in_ok-left.was ∙ c.first_part.ensures.split)
    (was_number _ _ c.number_of.ensures c.in_ok-numbers.was)
    c.requires

pub returns-in-Some : goal.returns-in-Some
returns-in-Some g c = too_many c.loop-k.invariant (omega arith) (rw c.in-Some.is (parts_some space _))

pub returns-in-None : goal.returns-in-None
returns-in-None g c = all_read c.loop-k.invariant (omega arith) (ap (parts_after space) c.in-None.is)
