-- Acceptance keeps the bounds of the live orders, whose figures and maxima grow with the arrival, and gives the arrival its own: all the work there is, is in its sum.
use mathlib.Core.Path.{◌≡◌, sym, ap, subst, ◌∙◌}
use mathlib.Core.Bool.{Bool, true, false, true≢false}
use mathlib.Core.List.{[], ◌∷◌, map}
use Prim.Native.Nat.{ℕ, ◌+◌, ◌≤◌}
use native.Mathlib.Omega.{arith}
use Rattle.model.specs.declared.Order.{Order}
use Rattle.model.specs.Lists.{at, total}
use Rattle.model.specs.State.{State}
use Rattle.model.specs.declared.Block.{Block}
use Rattle.model.specs.Admission.{arrival, joined_by, joined_live}
use Rattle.schedule.specs.Valid.{◌∈◌, serving, cost, Valid}
use Rattle.schedule.specs.Accept.{Acceptable, NextAfter, accept_next}
use Rattle.schedule.proofs.Accept.{Origin, old, new, origin, arrival_unserved, valid_accept}
use Rattle.delay.specs.Bound.{up_to, both, weight, share, load, BoundAt, Bounds, Bounded}
use Rattle.delay.specs.General.{Grows}
use Rattle.delay.proofs.Sums.{total_mono, total_append, total_one, map-map, up_to_mono}
use Rattle.delay.proofs.Bound.{share_most, bounds_now}

-- a test that stays with an order as an arrival joins it
module _ (favoured : Order → Bool) (next : ℕ) (s : State) (b : Block) (joins_keep : (o : Order) → favoured (joined_by b o) ≡ favoured o) where
  joined_weight : (o : Order) → weight favoured (joined_by b o) ≡ weight favoured o
  unfolding weight joined_by
  joined_weight o = rw (joins_keep o)

  joined_share : (k : ℕ) (o : Order) → share favoured k (joined_by b o) ≤ share favoured k o
  unfolding share joined_by
  joined_share k o = rw (joined_weight o) (omega arith)

  -- a figure over the live orders after an acceptance
  total_accept : (f g : Order → ℕ) → ((o : Order) → f (joined_by b o) ≤ g o) → total (map f (accept_next next s b).orders) ≤ total (map g s.orders) + f (arrival s b)
  unfolding accept_next joined_live
  total_accept f g h =
      omega (
        arith,
        total_append f (map (joined_by b) s.orders) (arrival s b ∷ []),
        ap total (map-map f (joined_by b) s.orders),
        total_mono (λ o. f (joined_by b o)) g s.orders (λ o m. h o),
        total_one f (arrival s b),
      )

  load_accept : (k : ℕ) → load favoured (accept_next next s b) k ≤ load favoured s k + weight favoured (arrival s b)
  load_accept k = omega (arith, total_accept (share favoured k) (share favoured k) (joined_share k), share_most favoured k (arrival s b))

  module _ (valid : Valid s) (ok : Acceptable s b) where
    -- the costs of a live order after the acceptance are covered, if those before it were and the arrival's are
    covered : (flag : Bool) (f g : ℕ → ℕ) → ((k : ℕ) → f k ≤ g k) → ((o : Order) → o ∈ s.orders → favoured o ≡ flag → (k : ℕ) → cost o k ≤ f k) → (favoured (arrival s b) ≡ flag → (k : ℕ) → at 0 b.costs k ≤ g k)
        → (o : Order) → o ∈ (accept_next next s b).orders → favoured o ≡ flag → (k : ℕ) → cost o k ≤ g k
    unfolding arrival joined_by
    covered flag f g more before mine o m e k = go (origin next s b m)
      where
        go : Origin next s b o → cost o k ≤ g k
        go (old p q r) = omega (arith, before p q (sym (joins_keep p) ∙ ap favoured r ∙ e) k, more k, ap (λ (x : Order). cost x k) r)
        go (new r) = omega (arith, mine (ap favoured r ∙ e) k, ap (λ (x : Order). cost x k) r)

    bounds_accept : (figure figure' : ℕ) (M K M' K' : ℕ → ℕ) (j : ℕ) → figure + weight favoured (arrival s b) ≤ figure' → ((k : ℕ) → M k ≤ M' k) → ((k : ℕ) → K k ≤ K' k)
        → (favoured (arrival s b) ≡ true → (k : ℕ) → at 0 b.costs k ≤ M' k) → (favoured (arrival s b) ≡ false → (k : ℕ) → at 0 b.costs k ≤ K' k)
        → Bounds favoured s figure M K j → Bounds favoured (accept_next next s b) figure' M' K' j
    unfolding accept_next joined_by arrival
    bounds_accept figure figure' M K M' K' j grows more_m more_k mine mine_other bs =
        record { bound = bound; covers = covered true M M' more_m bs.covers mine; covers_others = covered false K K' more_k bs.covers_others mine_other }
      where
        more_before : (k : ℕ) → up_to (both M K) k ≤ up_to (both M' K') k
        more_before k = up_to_mono (both M K) (both M' K') k (λ i. omega (arith, more_m i, more_k i))

        bound : (k : ℕ) → j ≤ k → k ≤ s.n → BoundAt favoured (accept_next next s b) figure' M' K' k
        bound k h high =
            record {
              resting = λ z. omega (arith, (bs.bound k h high).resting z, load_accept k, more_before k, more_k k);
              working = λ o m f r. works o f r (origin next s b m);
              blocked = λ o m f r. blocks o f r (origin next s b m);
            }
          where
            works : (o : Order) → favoured o ≡ true → (serving s k).ticket ≡ o.ticket → Origin next s b o → s.clock + load favoured (accept_next next s b) k + (serving s k).left ≤ figure' + up_to (both M' K') k + cost o k + K' k
            works o f r (old p m e) = omega (arith, (bs.bound k h high).working p m (sym (joins_keep p) ∙ ap favoured e ∙ f) (r ∙ ap (λ (x : Order). x.ticket) (sym e)), load_accept k, more_before k, more_k k, ap (λ (x : Order). cost x k) e)
            works o f r (new e) = absurd (arrival_unserved next s b valid ok k (r ∙ ap (λ (x : Order). x.ticket) (sym e)))

            blocks : (o : Order) → favoured o ≡ false → (serving s k).ticket ≡ o.ticket → Origin next s b o → s.clock + load favoured (accept_next next s b) k + (serving s k).left ≤ figure' + up_to (both M' K') k + cost o k
            blocks o f r (old p m e) = omega (arith, (bs.bound k h high).blocked p m (sym (joins_keep p) ∙ ap favoured e ∙ f) (r ∙ ap (λ (x : Order). x.ticket) (sym e)), load_accept k, more_before k, ap (λ (x : Order). cost x k) e)
            blocks o f r (new e) = absurd (arrival_unserved next s b valid ok k (r ∙ ap (λ (x : Order). x.ticket) (sym e)))

    bounds_arrival : NextAfter s next → (figure : ℕ) (M K : ℕ → ℕ) → s.clock + (total (map (weight favoured) s.orders) + weight favoured (arrival s b)) ≤ figure
        → ((o : Order) → o ∈ s.orders → favoured o ≡ true → (k : ℕ) → cost o k ≤ M k) → ((o : Order) → o ∈ s.orders → favoured o ≡ false → (k : ℕ) → cost o k ≤ K k)
        → (favoured (arrival s b) ≡ true → (k : ℕ) → at 0 b.costs k ≤ M k) → (favoured (arrival s b) ≡ false → (k : ℕ) → at 0 b.costs k ≤ K k) → Bounds favoured (accept_next next s b) figure M K 1
    unfolding accept_next
    bounds_arrival after figure M K enough covers covers_others mine mine_other =
        bounds_now favoured (accept_next next s b) (valid_accept next s b valid ok after) figure M K
        (omega (arith, total_accept (weight favoured) (weight favoured) (λ o. omega (arith, joined_weight o))))
        (covered true M M (λ k. omega arith) covers mine) (covered false K K (λ k. omega arith) covers_others mine_other)

pub bounded_accept : (favoured : Order → Bool) (figure : Order → ℕ) (M K : Order → ℕ → ℕ) (next : ℕ) (s : State) (b : Block) → Acceptable s b → NextAfter s next → Grows favoured figure M K s b → Bounded favoured figure M K s → Bounded favoured figure M K (accept_next next s b)
unfolding joined_by arrival
bounded_accept favoured figure M K next s b ok after grows inv = record { valid = valid_accept next s b inv.valid ok after; held = λ t m f. go f (origin next s b m) }
  where
    Held : Order → Type 0
    Held t = Bounds favoured (accept_next next s b) (figure t) (M t) (K t) t.station

    go : {t : Order} → favoured t ≡ true → Origin next s b t → Held t
    go f (old o m e) =
        let g : favoured o ≡ true = sym (grows.favoured_stays o) ∙ ap favoured e ∙ f in
        subst Held e
        (bounds_accept favoured next s b grows.favoured_stays inv.valid ok (figure o) (figure (joined_by b o)) (M o) (K o) (M (joined_by b o)) (K (joined_by b o)) o.station
        (grows.figure_grows o m g) (grows.m_grows o) (grows.k_grows o) (λ x. grows.m_covers x o g) (λ x. grows.k_covers x o g) (inv.held o m g))
    go f (new e) =
        let g : favoured (arrival s b) ≡ true = ap favoured e ∙ f in
        subst Held e
        (bounds_arrival favoured next s b grows.favoured_stays inv.valid ok after (figure (arrival s b)) (M (arrival s b)) (K (arrival s b))
        (grows.own_figure g) (λ o m x k. (grows.own_m g k).1 o m x) (λ o m x k. grows.own_k g k o m x) (λ x k. (grows.own_m g k).0) (λ x k. absurd (true≢false (sym g ∙ x))))
