-- The margins, read from their bits, and their signs.
use mathlib.Core.Path.{◌≡◌, sym, ap, ◌∙◌}
use mathlib.Core.Bool.{Bool, false}
use mathlib.Core.List.{[], ◌∷◌}
use lib.IntN.{ℤ, pos}
use lib.Signed.{lt_z}
use mir.Syntax.{w32}
use mir.Val.{SFits, to_z, of_z}
use mir.Facts.{to_z-of_z}
use borrow.Author.Rules.{rules}
use Rattle.std.specs.Int.{int_min}
use Rattle.model.specs.DelayBound.{margin}
use Rattle.model.specs.Admission.{smallest}
use Rattle.admission.specs.Decision.{decision_of}
use Rattle.admission.proofs.margins.LeastLaws.{lesser}
use Rattle.admission.proofs.decision.decide.Goals as goal

sign : {x y : ℤ} {t : Bool} → x ≡ y → lt_z x (pos 0) ≡ t → lt_z y (pos 0) ≡ t
sign e h = sym (ap (λ (z : ℤ). lt_z z (pos 0)) e) ∙ h

-- The smaller of two margins, read back from its bits as they are from theirs.
least_read : {l x y own other : ℤ} → SFits w32 l → l ≡ int_min x y → x ≡ own → y ≡ other → to_z w32 (of_z w32 l) ≡ smallest own (other ∷ [])
least_read {l} {x} {y} fits e own_is other_is = to_z-of_z fits ∙ e ∙ lesser x y ∙ rw (own_is, other_is)

pub returns-then-own-lt0 : goal.returns-then-own-lt0
unfolding decision_of
returns-then-own-lt0 c =
    let own_is : to_z w32 (of_z w32 c.of-own.result.margin) ≡ margin c.args.limits.n c.args.arrival = to_z-of_z {w = w32} (search rules) ∙ c.of-own.ensures.margin_is in
    let least_is = least_read (record { sfits = c.min-least.type_inv }) c.min-least.ensures.value own_is (to_z-of_z c.ranges.others) in
    rw (sign own_is c.if-own-lt0.true, least_is)

pub returns-then-least-lt0 : goal.returns-then-least-lt0
unfolding decision_of
returns-then-least-lt0 c =
    let own_is : to_z w32 (of_z w32 c.of-own.result.margin) ≡ margin c.args.limits.n c.args.arrival = to_z-of_z {w = w32} (search rules) ∙ c.of-own.ensures.margin_is in
    let least_is = least_read (record { sfits = c.min-least.type_inv }) c.min-least.ensures.value own_is (to_z-of_z c.ranges.others) in
    rw (sign own_is c.if-own-lt0.false, sign least_is c.if-least-lt0.true, least_is)

pub returns : goal.returns
unfolding decision_of
returns c =
    let own_is : to_z w32 (of_z w32 c.of-own.result.margin) ≡ margin c.args.limits.n c.args.arrival = to_z-of_z {w = w32} (search rules) ∙ c.of-own.ensures.margin_is in
    let least_is = least_read (record { sfits = c.min-least.type_inv }) c.min-least.ensures.value own_is (to_z-of_z c.ranges.others) in
    rw (sign own_is c.if-own-lt0.false, sign {t = false} least_is (search rules), least_is, c.of-own.ensures.tick_is)
