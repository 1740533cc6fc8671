-- `put_explained` prints the line of the number, and after it what the number asks for. The line takes at most 18 bytes, and what follows at most 8,000.
use mathlib.Core.Path.{◌≡◌, refl, sym, ap, ◌∙◌}
use mathlib.Core.Bool.{true, false}
use native.Mathlib.Omega.{arith}
use borrow.Author.Rules.{rules}
use Rattle.soundness.specs.declared.questions.Refusal.TheVariants.{Unsound}
use Rattle.soundness.specs.Questions.{number_of}
use Rattle.text.proofs.Printing.{◌then◌}
use Rattle.image_text.proofs.explanation.Numbers.{zero_whole_sound, zero_said, four_named, others_alone, four_unsound, never_zero}
use Rattle.image_text.proofs.explanation.Rooms.{number_room}
use Rattle.image_text.proofs.explanation.put_explained.Goals as goal

pub put_number-requires : goal.put_number-requires
put_number-requires c = omega (arith, number_room 0 (omega arith))

pub put_said-requires : goal.put_said-requires
put_said-requires c = ((zero_whole_sound c.args.image.now 0 c.in-Ok.ensures refl).1, omega (arith, number_room 0 (omega arith)))

pub put_number-requires-in-Err : goal.put_number-requires-in-Err
put_number-requires-in-Err c = omega (arith, number_room c.from.result (omega arith))

pub put_flaw-requires : goal.put_flaw-requires
put_flaw-requires c = omega (arith, number_room c.from.result (omega arith))

pub returns-in-Ok-clause-said : goal.returns-in-Ok-clause-said
returns-in-Ok-clause-said c = rw (zero_said c.args.image.now 0 c.in-Ok.ensures refl) (c.put_number.ensures then c.put_said.ensures.said)

pub returns-in-Ok-clause-within : goal.returns-in-Ok-clause-within
returns-in-Ok-clause-within c = omega (arith, number_room 0 (omega arith))

pub returns-then-eq-clause-said : goal.returns-then-eq-clause-said
returns-then-eq-clause-said c =
    let is : c.from.result ≡ _ = c.from.ensures ∙ c.in-Err.ensures in
    let e : c.in-Err.refusal ≡ Unsound = search rules in
    rw (four_named c.args.image.now c.from.result is (c.from.ensures ∙ ap number_of e)) (c.put_number-in-Err.ensures then c.put_flaw.ensures.said)

pub returns-then-eq-clause-within : goal.returns-then-eq-clause-within
returns-then-eq-clause-within c = omega (arith, number_room c.from.result (omega arith))

pub returns-else-eq-clause-said : goal.returns-else-eq-clause-said
returns-else-eq-clause-said c =
    let is : c.from.result ≡ _ = c.from.ensures ∙ c.in-Err.ensures in
    let other : number_of c.in-Err.refusal ≡ 4 → ⊥ = λ e. (let z : false ≡ true = rw (four_unsound c.in-Err.refusal e) at c.if-eq.ensures in cc) in
    rw (others_alone c.args.image.now c.from.result is (λ e. omega (arith, never_zero c.in-Err.refusal)) (λ e. other (sym c.from.ensures ∙ e))) c.put_number-in-Err.ensures

pub returns-else-eq-clause-within : goal.returns-else-eq-clause-within
returns-else-eq-clause-within c = omega (arith, number_room c.from.result (omega arith))
