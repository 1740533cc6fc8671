-- Questions 11 and 12 as facts: an order is on time or late by the test of its delay bound, and a test that not all pass is failed by one.
use mathlib.Core.Path.{◌≡◌, refl, sym, ◌∙◌}
use mathlib.Core.Logic.{◌⊎◌, inl, inr}
use mathlib.Core.Bool.{Bool, true, false, true≢false}
use mathlib.Core.List.Memᴰ
use mathlib.Core.List.{List, [], ◌∷◌}
use Prim.Native.Nat.{ℕ}
use borrow.Author.Tests.{leb-false, lt-leb}
use Rattle.model.specs.declared.Block.{Block}
use Rattle.model.specs.declared.Order.{Order}
use Rattle.model.specs.Lists.{all}
use Rattle.model.specs.State.{State}
use Rattle.model.specs.DelayBound.{bound_tick, on_time}
use Rattle.model.specs.Admission.{joined_by, joined_live}
use Rattle.schedule.specs.Valid.{◌∈◌}
use Rattle.schedule.proofs.Laws.{test, all_member}
use Rattle.image_laws.specs.Iff.{◌⇔◌}
use Rattle.image_laws.proofs.Tests.{Says, leb_says, members_say, all_map}
use Rattle.call_laws.specs.OfferExact.{bound_tick_of, InTime, Late}

module _ (n : ℕ) (o : Order) where
  pub time_says : Says (on_time n o) (InTime n o)
  unfolding on_time bound_tick
  time_says = leb_says (bound_tick_of n o) o.due

  pub late_says : (on_time n o ≡ false) ⇔ Late n o
  unfolding on_time bound_tick
  late_says = record { only = leb-false (bound_tick_of n o) o.due; if = lt-leb (bound_tick_of n o) o.due }

-- Not all pass where one fails.
not_all : {A : Type 0} (p : A → Bool) (l : List A) → (all p l ≡ false) ⇔ ((a : A) × (a ∈ l) × (p a ≡ false))
unfolding all
not_all {A} p l = record { only = one l; if = λ w. go w (test (all p l)) }
  where
    one : (l : List A) → all p l ≡ false → (a : A) × (a ∈ l) × (p a ≡ false)
    one [] e = absurd (true≢false e)
    one (x ∷ l) e =
        elim (test (p x)) [
          | inl t ↦ let w = one l (rw t at e) in (w.0, Memᴰ.tail w.1, w.2)
          | inr t ↦ (x, Memᴰ.head refl, t)
        ]

    go : (a : A) × (a ∈ l) × (p a ≡ false) → (all p l ≡ true) ⊎ (all p l ≡ false) → all p l ≡ false
    go w (inl e) = absurd (true≢false (sym (all_member p l e w.1) ∙ w.2))
    go w (inr e) = e

-- The live orders with the arrival in their interference sets.
module _ (s : State) (b : Block) where
  joined : all (on_time s.n) (joined_live s b) ≡ all (λ o. on_time s.n (joined_by b o)) s.orders
  unfolding joined_live
  joined = all_map (on_time s.n) (joined_by b) s.orders

  pub live_say : Says (all (on_time s.n) (joined_live s b)) ((o : Order) → o ∈ s.orders → InTime s.n (joined_by b o))
  live_say = rw joined (members_say (λ o. on_time s.n (joined_by b o)) s.orders (λ o m. time_says s.n (joined_by b o)))

  pub one_late : (all (on_time s.n) (joined_live s b) ≡ false) ⇔ ((o : Order) × (o ∈ s.orders) × Late s.n (joined_by b o))
  one_late =
      let f = not_all (λ o. on_time s.n (joined_by b o)) s.orders in
      rw joined
      (record {
        only = λ e. let w = f.only e in (w.0, w.1, (late_says s.n (joined_by b w.0)).only w.2);
        if = λ w. f.if (w.0, w.1, (late_says s.n (joined_by b w.0)).if w.2);
      })
