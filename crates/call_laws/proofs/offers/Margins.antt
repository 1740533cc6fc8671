-- The smallest of a list's numbers, signed: one of the list has it, and none a smaller one. So for the margins over the arrival and the live orders.
use mathlib.Core.Path.{◌≡◌, refl, sym}
use mathlib.Core.Logic.{◌⊎◌, inl, inr}
use mathlib.Core.Bool.{true, false, cond, true≢false}
use mathlib.Core.List.Memᴰ
use mathlib.Core.List.{List, [], ◌∷◌, map}
use native.Mathlib.Omega.{arith}
use lib.IntN.{ℤ, pos, negsuc}
use lib.Signed.{lt_z}
use borrow.Author.Tests.{ltb-true, ltb-false, le-ltb}
use Rattle.model.specs.declared.Block.{Block}
use Rattle.model.specs.State.{State}
use Rattle.model.specs.DelayBound.{bound_tick, margin}
use Rattle.model.specs.Admission.{arrival, joined_live, smallest, smallest_margin}
use Rattle.schedule.specs.Valid.{◌∈◌}
use Rattle.schedule.proofs.Laws.{test}
use Rattle.call_laws.specs.OfferExact.{Smallest}

not_below_itself : (x : ℤ) → lt_z x x ≡ false
not_below_itself (pos x) = le-ltb x x (omega arith)
not_below_itself (negsuc x) = le-ltb x x (omega arith)

-- What is not below z is not below y either, which is.
not_below : (x y z : ℤ) → lt_z x z ≡ false → lt_z y z ≡ true → lt_z x y ≡ false
not_below (pos x) (pos y) (pos z) p q = le-ltb x y (omega (arith, ltb-false x z p, ltb-true y z q))
not_below (pos x) (pos y) (negsuc z) p q = absurd (true≢false (sym q))
not_below (pos x) (negsuc y) z p q = refl
not_below (negsuc x) y (pos z) p q = absurd (true≢false p)
not_below (negsuc x) (pos y) (negsuc z) p q = absurd (true≢false (sym q))
not_below (negsuc x) (negsuc y) (negsuc z) p q = le-ltb y x (omega (arith, ltb-false z x p, ltb-true z y q))

module _ {A : Type 0} (f : A → ℤ) where
  record Least (l : List A) (m : ℤ) : Type 0 where
    has : A
    among : has ∈ l
    attained : m ≡ f has
    least : (a : A) → a ∈ l → lt_z (f a) m ≡ false

  least_is : (a : A) (l : List A) → Least (a ∷ l) (smallest (f a) (map f l))
  unfolding smallest
  least_is a [] = record { has = a; among = Memᴰ.head refl; attained = refl; least = λ x m. rw (Memᴰ.eq_of_singleton m) (not_below_itself (f a)) }
  least_is a (b ∷ l) = go (least_is b l) (test (lt_z (f a) (smallest (f b) (map f l))))
    where
      go : {m : ℤ} → Least (b ∷ l) m → (lt_z (f a) m ≡ true) ⊎ (lt_z (f a) m ≡ false) → Least (a ∷ b ∷ l) (cond (lt_z (f a) m) (f a) m)
      go {m} r (inl e) =
          rw e
          (record {
            has = a;
            among = Memᴰ.head refl;
            attained = refl;
            least = λ x q. elim (Memᴰ.cases_cons q) [ inl t ↦ rw t (not_below_itself (f a)) | inr t ↦ not_below (f x) (f a) m (r.least x t) e ];
          })
      go {m} r (inr e) =
          rw e
          (record {
            has = r.has;
            among = Memᴰ.tail r.among;
            attained = r.attained;
            least = λ x q. elim (Memᴰ.cases_cons q) [ inl t ↦ rw t e | inr t ↦ r.least x t ];
          })

pub smallest_margin_lem : (s : State) (b : Block) → Smallest s b (smallest_margin s b)
unfolding smallest_margin margin bound_tick
smallest_margin_lem s b =
    let r = least_is (margin s.n) (arrival s b) (joined_live s b) in
    record { order = r.has; among = r.among; attained = r.attained; least = r.least }
