-- How facts about definite lists are put together from their entries.
use mathlib.Core.Path.{◌≡◌, refl, sym, ap, subst, ◌∙◌}
use mathlib.Core.Bool.{Bool, true, false, cond, true≢false}
use mathlib.Core.Logic.{inl, inr}
use mathlib.Core.List.Memᴰ
use mathlib.Core.List.{List, [], ◌∷◌}
use Prim.Native.Nat.{ℕ, ◌<◌}
use native.Mathlib.Omega.{arith}
use lib.Dec.{ltb}
use lib.IntN.{ℤ, pos, negsuc}
use lib.Signed.{lt_z}
use borrow.Author.Tests.{ltb-false}
use Rattle.model.specs.Lists.{all}
use Rattle.schedule.specs.Valid.{◌∈◌}
use Rattle.image_laws.specs.InRange.{byte_limit, Below}
use Rattle.image_laws.proofs.Tests.{ltb_says, entries_say}

-- An equation between numbers, both of which are the figure: what is left of an equation that a claim gives in a definite case.
abbrev pub Figure : ℕ → Type 0
Figure n = ◌≡◌ {A = ℕ} n n

-- What holds of each of two holds of all that are one of them.
pub of_one : {A : Type 0} (P : A → Type 0) (x : A) → P x → (e : A) → e ∈ x ∷ [] → P e
of_one P x p e m = elim (Memᴰ.cases_cons m) [ inl i ↦ subst P (sym i) p | inr z ↦ absurd (Memᴰ.not-nil z) ]

pub of_two : {A : Type 0} (P : A → Type 0) (x y : A) → P x → P y → (e : A) → e ∈ x ∷ y ∷ [] → P e
of_two P x y p q e m = elim (Memᴰ.cases_cons m) [ inl i ↦ subst P (sym i) p | inr r ↦ of_one P y q e r ]

of_three : {A : Type 0} (P : A → Type 0) (x y z : A) → P x → P y → P z → (e : A) → e ∈ x ∷ y ∷ z ∷ [] → P e
of_three P x y z p q r e m = elim (Memᴰ.cases_cons m) [ inl i ↦ subst P (sym i) p | inr n ↦ of_two P y z q r e n ]

pub of_four : {A : Type 0} (P : A → Type 0) (w x y z : A) → P w → P x → P y → P z → (e : A) → e ∈ w ∷ x ∷ y ∷ z ∷ [] → P e
of_four P w x y z o p q r e m = elim (Memᴰ.cases_cons m) [ inl i ↦ subst P (sym i) o | inr n ↦ of_three P x y z p q r e n ]

-- The smaller of two margins. What one of two orders has, with none below it, is that.
abbrev pub smaller : ℤ → ℤ → ℤ
smaller a b = cond (lt_z a b) a b

neither_below : (a b : ℤ) → lt_z a b ≡ false → lt_z b a ≡ false → a ≡ b
neither_below (pos a) (pos b) p q = ap pos (omega (arith, ltb-false a b p, ltb-false b a q))
neither_below (pos a) (negsuc b) p q = absurd (true≢false q)
neither_below (negsuc a) (pos b) p q = absurd (true≢false p)
neither_below (negsuc a) (negsuc b) p q = ap negsuc (omega (arith, ltb-false b a p, ltb-false a b q))

smaller_first : (a b : ℤ) → lt_z b a ≡ false → smaller a b ≡ a
smaller_first a b q = go (lt_z a b) refl
  where
    go : (t : Bool) → lt_z a b ≡ t → cond t a b ≡ a
    go true p = refl
    go false p = sym (neither_below a b p q)

pub smaller_of_two : {A : Type 0} (margin : A → ℤ) (x y : A) (m : ℤ) (order : A) → order ∈ x ∷ y ∷ [] → m ≡ margin order → ((e : A) → e ∈ x ∷ y ∷ [] → lt_z (margin e) m ≡ false) → m ≡ smaller (margin x) (margin y)
smaller_of_two {A} margin x y m order among has none_less =
    has ∙ of_two (λ (o : A). margin o ≡ m → margin o ≡ smaller (margin x) (margin y)) x y first second order among (sym has)
  where
    first : margin x ≡ m → margin x ≡ smaller (margin x) (margin y)
    first is = sym (smaller_first (margin x) (margin y) (rw is (none_less y (Memᴰ.tail (Memᴰ.head refl)))))

    second : margin y ≡ m → margin y ≡ smaller (margin x) (margin y)
    second is = rw (ap (λ (z : ℤ). lt_z (margin x) z) is ∙ none_less x (Memᴰ.head refl))

-- Bytes and answers, as `Figure` has numbers.
abbrev pub Bytes : List ℕ → Type 0
Bytes l = ◌≡◌ {A = List ℕ} l l

abbrev pub Yes : Type 0
Yes = ◌≡◌ {A = Bool} true true

abbrev pub No : Type 0
No = ◌≡◌ {A = Bool} false false

-- An image that is bytes, by a computed test.
pub all_bytes : (l : List ℕ) → all (λ x. ltb x byte_limit) l ≡ true → Below byte_limit l
all_bytes l = (entries_say (λ x. ltb x byte_limit) (λ x. x < byte_limit) (λ x. ltb_says x byte_limit) 0 (omega arith) l).tells
