-- Acceptance leaves a valid state valid. A live order after it is one from before, joined by the arrival, or the arrival.
use mathlib.Core.Path.{◌≡◌, refl, sym, ap, subst}
use mathlib.Core.Logic.{◌⊎◌, inl, inr}
use mathlib.Core.Bool.{cond}
use mathlib.Core.List.Memᴰ
use mathlib.Core.List.{[], ◌∷◌, map}
use Prim.Native.Nat.{ℕ, ◌+◌, ◌<◌}
use native.Mathlib.Omega.{arith}
use lib.Dec.{eqb}
use Rattle.model.specs.declared.Order.{Order}
use Rattle.model.specs.Limits.{last_ticket}
use Rattle.model.specs.State.{State, idle}
use Rattle.model.specs.declared.Block.{Block}
use Rattle.model.specs.Admission.{arrival, joined_by, joined_live, accept}
use Rattle.schedule.specs.Valid.{◌∈◌, serving, Busy, Fit, Valid}
use Rattle.schedule.specs.Accept.{Acceptable, NextAfter, accept_next}
use Rattle.schedule.proofs.Laws.{same_ticket, by_cond, rising_map, rising_append}

pub plain_accept : (s : State) (b : Block) → accept s b ≡ accept_next (cond (eqb s.next last_ticket) 0 (s.next + 1)) s b
unfolding accept accept_next
plain_accept s b = refl

pub next_after : (s : State) → NextAfter s (cond (eqb s.next last_ticket) 0 (s.next + 1))
next_after s = by_cond (NextAfter s) (eqb s.next last_ticket) (inl refl) (inr (omega arith))

module _ (next : ℕ) (s : State) (b : Block) where
  pub data Origin (t : Order) : Type 0 where
    old : (o : Order) → o ∈ s.orders → joined_by b o ≡ t → Origin t
    new : arrival s b ≡ t → Origin t

  pub origin : {t : Order} → t ∈ (accept_next next s b).orders → Origin t
  unfolding accept_next joined_live
  origin {t} m = go (Memᴰ.append_cases (map (joined_by b) s.orders) m)
    where
      go : (t ∈ map (joined_by b) s.orders) ⊎ (t ∈ (arrival s b ∷ [])) → Origin t
      go (inl q) = let w = Memᴰ.of_map (joined_by b) s.orders q in old w.0 w.1 w.2
      go (inr q) = new (sym (Memᴰ.eq_of_singleton q))

  pub old_in : {o : Order} → o ∈ s.orders → joined_by b o ∈ (accept_next next s b).orders
  unfolding accept_next joined_live
  old_in m = Memᴰ.append_left (arrival s b ∷ []) (Memᴰ.map (joined_by b) m)

  pub new_in : arrival s b ∈ (accept_next next s b).orders
  unfolding accept_next
  new_in = Memᴰ.append_right (joined_live s b) (Memᴰ.head refl)

  module _ (valid : Valid s) (ok : Acceptable s b) where
    -- the arrival's ticket is later than that of every live order
    pub later : (o : Order) → o ∈ s.orders → o.ticket < s.next
    later o m = elim (valid.below o m) [ inl z ↦ absurd (omega (arith, ok.ticket)) | inr h ↦ h ]

    -- the arrival is not in service
    pub arrival_unserved : (k : ℕ) → (serving s k).ticket ≡ s.next → ⊥
    arrival_unserved k e =
        elim (valid.service k) [
          | inl q ↦ omega (arith, same_ticket q, ok.ticket)
          | inr w ↦ omega (arith, w.served, later w.order w.live)
        ]

    pub valid_accept : NextAfter s next → Valid (accept_next next s b)
    unfolding accept_next joined_live joined_by arrival
    valid_accept after =
        record {
          entries = valid.entries;
          service = λ k. busy k (valid.service k);
          rising = rising_append (λ (o : Order). o.ticket) (map (joined_by b) s.orders) (arrival s b) (rising_map (λ (o : Order). o.ticket) (joined_by b) (λ o. refl) s.orders valid.rising) (λ o m. let w = Memᴰ.of_map (joined_by b) s.orders m in omega (arith, later w.0 w.1, ap (λ (x : Order). x.ticket) w.2));
          below = λ o m. below (origin m) after;
          fit = λ o m. fit (origin m);
        }
      where
        busy : (k : ℕ) → (serving s k ≡ idle) ⊎ Busy s k → (serving s k ≡ idle) ⊎ Busy (accept_next next s b) k
        busy k (inl e) = inl e
        busy k (inr w) = inr (record { order = joined_by b w.order; live = old_in w.live; here = w.here; served = w.served; some_left = w.some_left; at_most = w.at_most })

        below : {o : Order} → Origin o → NextAfter s next → (next ≡ 0) ⊎ (o.ticket < next)
        below f (inl z) = inl z
        below (old p m e) (inr h) = inr (omega (arith, later p m, ap (λ (x : Order). x.ticket) e))
        below (new e) (inr h) = inr (omega (arith, ap (λ (x : Order). x.ticket) e))

        fit : {o : Order} → Origin o → Fit s.n o
        fit (old p m e) = subst (Fit s.n) e (record { named = (valid.fit p m).named; low = (valid.fit p m).low; high = (valid.fit p m).high; costs = (valid.fit p m).costs })
        fit (new e) = subst (Fit s.n) e (record { named = ok.ticket; low = omega arith; high = ok.stations; costs = ok.costs })
