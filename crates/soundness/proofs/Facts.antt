-- Two tests of one fact are one test.
use Rattle.std.proofs.Common.{◌≡◌, refl, sym, ◌∙◌, Bool, false, ℕ, ◌+◌, ◌-◌, arith}
use mathlib.Core.Bool.{◌&&◌}
use lib.Dec.{leb}
use Rattle.model.specs.Lists.{within}
use Rattle.lists.proofs.Tests.{either}
use Rattle.image_laws.proofs.Tests.{Says, leb_says, and_says, in_words}

pub same_fact : {a b : Bool} {P : Type 0} → Says a P → Says b P → a ≡ b
same_fact {a} {b} {P} p q = either (λ t. t ≡ b) a (λ e. sym (q.passes (p.tells e))) (λ e. either (λ t. false ≡ t) b (λ f. sym e ∙ p.passes (q.tells f)) (λ f. refl))

-- So much time, at least a tick and at most `most`, from `start` to `end`.
pub span_in_range : (start end most : ℕ) {span : ℕ} → span ≡ end - start → (leb 1 span && leb span most) ≡ within (start + 1) (start + most) end
span_in_range start end most {span} e =
    same_fact (and_says (leb_says 1 span) (leb_says span most))
    (in_words (and_says (leb_says (start + 1) end) (leb_says end (start + most))) (λ h. (omega (arith, h.0, e), omega (arith, h.1, e))) (λ h. (omega (arith, h.0, e), omega (arith, h.1, e))))
