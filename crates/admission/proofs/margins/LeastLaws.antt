-- The smallest of a list with one more at its end: the smaller of two is associative.
use mathlib.Core.Path.{◌≡◌, refl, sym, ap, ◌∙◌}
use mathlib.Core.Bool.{Bool, true, false, cond, true≢false}
use mathlib.Core.List.{List, [], ◌∷◌, ◌++◌}
use Prim.Native.Nat.{ℕ, ◌+◌}
use native.Mathlib.Omega.{arith}
use lib.IntN.{ℤ, pos, negsuc}
use lib.Signed.{lt_z}
use lib.Dec.{ltb}
use mir.Syntax.{w32}
use mir.Val.{SFits}
use borrow.Author.Tests.{lt-ltb, le-ltb, ltb-true, ltb-false}
use Rattle.std.specs.Int.{int_min}
use Rattle.model.specs.Lists.{upward}
use Rattle.model.specs.Admission.{smallest}
use Rattle.lists.proofs.Fills.{upward-more}

-- Tests of order, one after the other, both passed and both failed.
less_less : (a b c : ℤ) → lt_z a b ≡ true → lt_z b c ≡ true → lt_z a c ≡ true
less_less (pos a) (pos b) (pos c) p q = lt-ltb a c (omega (arith, ltb-true a b p, ltb-true b c q))
less_less (pos a) (pos b) (negsuc c) p q = q
less_less (pos a) (negsuc b) c p q = absurd (true≢false (sym p))
less_less (negsuc a) (pos b) (pos c) p q = refl
less_less (negsuc a) (pos b) (negsuc c) p q = absurd (true≢false (sym q))
less_less (negsuc a) (negsuc b) (pos c) p q = refl
less_less (negsuc a) (negsuc b) (negsuc c) p q = lt-ltb c a (omega (arith, ltb-true b a p, ltb-true c b q))

not_less : (a b c : ℤ) → lt_z a b ≡ false → lt_z b c ≡ false → lt_z a c ≡ false
not_less (pos a) (pos b) (pos c) p q = le-ltb a c (omega (arith, ltb-false a b p, ltb-false b c q))
not_less (pos a) (pos b) (negsuc c) p q = refl
not_less (pos a) (negsuc b) (pos c) p q = absurd (true≢false q)
not_less (pos a) (negsuc b) (negsuc c) p q = refl
not_less (negsuc a) (pos b) c p q = absurd (true≢false p)
not_less (negsuc a) (negsuc b) (pos c) p q = absurd (true≢false q)
not_less (negsuc a) (negsuc b) (negsuc c) p q = le-ltb c a (omega (arith, ltb-false b a p, ltb-false c b q))

-- The library's smaller of two asks the other way round.
only_one : (a b : ℤ) → lt_z a b ≡ true → lt_z b a ≡ false
only_one (pos a) (pos b) p = le-ltb b a (omega (arith, ltb-true a b p))
only_one (pos a) (negsuc b) p = absurd (true≢false (sym p))
only_one (negsuc a) (pos b) p = refl
only_one (negsuc a) (negsuc b) p = le-ltb a b (omega (arith, ltb-true b a p))

neither : (a b : ℤ) → lt_z a b ≡ false → lt_z b a ≡ false → a ≡ b
neither (pos a) (pos b) p q = ap pos (omega (arith, ltb-false a b p, ltb-false b a q))
neither (pos a) (negsuc b) p q = absurd (true≢false q)
neither (negsuc a) (pos b) p q = absurd (true≢false p)
neither (negsuc a) (negsuc b) p q = ap negsuc (omega (arith, ltb-false b a p, ltb-false a b q))

pub lesser : (a b : ℤ) → int_min a b ≡ smallest a (b ∷ [])
unfolding smallest
lesser a b = go (lt_z a b) (lt_z b a) refl refl
  where
    go : (s t : Bool) → lt_z a b ≡ s → lt_z b a ≡ t → cond (lt_z b a) b a ≡ cond (lt_z a b) a b
    go true t p q = rw (only_one a b p, p)
    go false true p q = rw (q, p)
    go false false p q = rw (q, p) (neither a b p q)

abbrev least : ℤ → ℤ → ℤ
least a b = cond (lt_z a b) a b

least_assoc : (a b c : ℤ) → least a (least b c) ≡ least (least a b) c
least_assoc a b c = go (lt_z a b) (lt_z b c) refl refl
  where
    go : (s t : Bool) → lt_z a b ≡ s → lt_z b c ≡ t → least a (least b c) ≡ least (least a b) c
    go true true p q = rw (q, p, less_less a b c p q)
    go true false p q = rw (q, p)
    go false true p q = rw (q, p, q)
    go false false p q = rw (q, p, q, not_less a b c p q)

smallest_last : (a : ℤ) (l : List ℤ) (c : ℤ) → smallest a (l ++ (c ∷ [])) ≡ least (smallest a l) c
unfolding smallest
smallest_last a [] c = refl
smallest_last a (b ∷ l) c = ap (least a) (smallest_last b l c) ∙ least_assoc a (smallest b l) c

pub smallest_start : (a : ℤ) (f : ℕ → ℤ) → a ≡ smallest a (upward 0 0 f)
unfolding smallest upward
smallest_start a f = refl

smallest_next : (a : ℤ) (f : ℕ → ℤ) (i : ℕ) → smallest (smallest a (upward 0 i f)) (f i ∷ []) ≡ smallest a (upward 0 (i + 1) f)
unfolding smallest
smallest_next a f i = sym (ap (smallest a) (upward-more i f) ∙ smallest_last a (upward 0 i f) (f i))

pub smallest_more : (a : ℤ) (f : ℕ → ℤ) (i : ℕ) {r x y : ℤ} → x ≡ smallest a (upward 0 i f) → y ≡ f i → r ≡ smallest x (y ∷ []) → r ≡ smallest a (upward 0 (i + 1) f)
smallest_more a f i p q e = e ∙ rw (p, q) (smallest_next a f i)

-- The smallest of a margin and of others: these may be started from any number that is not below it.
pub smallest_joined : (own top : ℤ) (l : List ℤ) → smallest own (top ∷ []) ≡ own → smallest own (smallest top l ∷ []) ≡ smallest own l
unfolding smallest
smallest_joined own top [] e = e
smallest_joined own top (b ∷ l) e = least_assoc own top (smallest b l) ∙ ap (λ (m : ℤ). least m (smallest b l)) e

pub below_largest : (z : ℤ) → SFits w32 z → smallest z (pos 2147483647 ∷ []) ≡ z
unfolding smallest
below_largest (negsuc n) f = refl
below_largest (pos n) f = go (ltb n 2147483647) refl
  where
    go : (t : Bool) → ltb n 2147483647 ≡ t → cond t (pos n) (pos 2147483647) ≡ pos n
    go true e = refl
    go false e = ap pos (omega (arith, ltb-false n 2147483647 e, f.sfits))
