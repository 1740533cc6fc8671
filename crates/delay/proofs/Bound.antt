-- What a bound gives by itself: one station on, with a tick to spare; that a live favoured order's time is not yet over; and that a valid state with enough
-- figure has its bounds.
use mathlib.Core.Path.{◌≡◌, sym, ap, ◌∙◌}
use mathlib.Core.Logic.{◌⊎◌, inl, inr}
use mathlib.Core.Bool.{Bool, true, false}
use mathlib.Core.List.{map}
use Prim.Native.Nat.{ℕ, suc, ◌+◌, ◌≤◌, ◌<◌}
use native.Mathlib.Omega.{arith}
use borrow.Author.Tests.{le-leb, lt-leb}
use Rattle.model.specs.declared.Order.{Order}
use Rattle.model.specs.Lists.{total, largest}
use Rattle.model.specs.State.{State, idle}
use Rattle.schedule.specs.Valid.{◌∈◌, serving, cost, Busy, Fit, Valid}
use Rattle.schedule.proofs.Laws.{same_ticket, same_left, test, leb_cases, at-largest, unique}
use Rattle.delay.specs.Bound.{up_to, both, weight, share, load, BoundAt, Bounds}
use Rattle.delay.proofs.Sums.{total_member, total_mono, up_to_suc}

module _ (favoured : Order → Bool) where
  -- ---- shares
  pub weight_favoured : (o : Order) → favoured o ≡ true → weight favoured o ≡ largest o.costs
  unfolding weight
  weight_favoured o e = rw e

  pub weight_other : (o : Order) → favoured o ≡ false → weight favoured o ≡ 0
  unfolding weight
  weight_other o e = rw e

  pub share_in : (k : ℕ) (o : Order) → o.station ≤ k → share favoured k o ≡ weight favoured o
  unfolding share
  share_in k o h = rw (le-leb o.station k h)

  pub share_out : (k : ℕ) (o : Order) → k < o.station → share favoured k o ≡ 0
  unfolding share
  share_out k o h = rw (lt-leb o.station k h)

  pub share_most : (k : ℕ) (o : Order) → share favoured k o ≤ weight favoured o
  unfolding share
  share_most k o = elim (leb_cases o.station k) [ inl h ↦ rw h.0 (omega arith) | inr h ↦ rw h.0 (omega arith) ]

  -- an order further on has no larger share
  pub share_further : (k : ℕ) (o p : Order) → o.station ≤ p.station → weight favoured p ≡ weight favoured o → share favoured k p ≤ share favoured k o
  share_further k o p h e = elim (leb_cases o.station k) [ inl q ↦ omega (arith, share_in k o q.1, share_most k p) | inr q ↦ omega (arith, share_out k p (omega (arith, q.1))) ]

  -- an order that is not at station k + 1, if it is favoured, has the same share there as at station k
  share_skip : (k : ℕ) (o : Order) → (favoured o ≡ true → o.station ≡ suc k → ⊥) → share favoured (suc k) o ≤ share favoured k o
  share_skip k o h = go (test (favoured o))
    where
      there : (o.station ≡ suc k → ⊥) → share favoured (suc k) o ≤ share favoured k o
      there h = elim (leb_cases o.station k) [ inl q ↦ omega (arith, share_in k o q.1, share_most (suc k) o) | inr q ↦ omega (arith, share_out (suc k) o (omega arith)) ]

      go : (favoured o ≡ true) ⊎ (favoured o ≡ false) → share favoured (suc k) o ≤ share favoured k o
      go (inl e) = there (h e)
      go (inr e) = omega (arith, share_most (suc k) o, weight_other o e)

  module _ (s : State) (valid : Valid s) (figure : ℕ) (M K : ℕ → ℕ) where
    -- ---- one station on: where no favoured order is at station k + 1, its bound comes from that of station k, with a tick to spare
    pub next_bound : (t : Order) → t ∈ s.orders → favoured t ≡ true → (k : ℕ) → t.station ≤ k → suc k ≤ s.n → ((o : Order) → o ∈ s.orders → favoured o ≡ true → o.station ≡ suc k → ⊥)
        → Bounds favoured s figure M K t.station → s.clock + load favoured s (suc k) + 1 ≤ figure + up_to (both M K) (suc k)
    next_bound t m f k low high nobody b = omega (arith, skip, up_to_suc (both M K) k, step (valid.service k))
      where
        here : BoundAt favoured s figure M K k
        here = b.bound k low (omega arith)

        skip : load favoured s (suc k) ≤ load favoured s k
        skip = total_mono (share favoured (suc k)) (share favoured k) s.orders (λ o q. share_skip k o (nobody o q))

        step : (serving s k ≡ idle) ⊎ Busy s k → s.clock + load favoured s k + 1 ≤ figure + up_to (both M K) k + (M k + K k)
        step (inl i) = omega (arith, here.resting (same_ticket i), b.covers t m f k, (valid.fit t m).costs k (omega (arith, (valid.fit t m).low)) (omega arith))
        step (inr w) =
            elim (test (favoured w.order)) [
              | inl e ↦ omega (arith, here.working w.order w.live e w.served, b.covers w.order w.live e k, w.some_left)
              | inr e ↦ omega (arith, here.blocked w.order w.live e w.served, b.covers_others w.order w.live e k, w.some_left)
            ]

    -- ---- what the bounds of a live favoured order are for: its time is not yet over
    pub in_time : (t : Order) → t ∈ s.orders → favoured t ≡ true → Bounds favoured s figure M K t.station → s.clock < figure + up_to (both M K) s.n + K s.n
    in_time t m f b = go (valid.service s.n)
      where
        fit : Fit s.n t
        fit = valid.fit t m

        last : BoundAt favoured s figure M K s.n
        last = b.bound s.n fit.high (omega arith)

        own : 1 ≤ load favoured s s.n
        own =
            omega (
              arith,
              total_member (share favoured s.n) m,
              share_in s.n t fit.high,
              weight_favoured t f,
              at-largest t.costs s.n,
              fit.costs s.n (omega (arith, fit.low, fit.high)) (omega arith),
            )

        go : (serving s s.n ≡ idle) ⊎ Busy s s.n → s.clock < figure + up_to (both M K) s.n + K s.n
        go (inl e) = omega (arith, last.resting (same_ticket e), own)
        go (inr w) =
            elim (test (favoured w.order)) [
              | inl e ↦
                  omega (
                    arith,
                    last.working w.order w.live e w.served,
                    total_member (share favoured s.n) w.live,
                    share_in s.n w.order (omega (arith, w.here)),
                    weight_favoured w.order e,
                    at-largest w.order.costs s.n,
                    w.some_left,
                  )
              | inr e ↦ omega (arith, last.blocked w.order w.live e w.served, b.covers_others w.order w.live e s.n, own, w.some_left)
            ]

  -- ---- bounds as they are at hand in any valid state: all the work there is, and maxima that cover all that is there
  pub bounds_now : (s : State) → Valid s → (figure : ℕ) (M K : ℕ → ℕ) → s.clock + total (map (weight favoured) s.orders) ≤ figure
      → ((o : Order) → o ∈ s.orders → favoured o ≡ true → (k : ℕ) → cost o k ≤ M k) → ((o : Order) → o ∈ s.orders → favoured o ≡ false → (k : ℕ) → cost o k ≤ K k)
      → Bounds favoured s figure M K 1
  bounds_now s valid figure M K enough covers covers_others =
      record {
        bound = λ k low high.
            record {
              resting = λ z. omega (arith, all k);
              working = λ o m f r. omega (arith, all k, left k o m r);
              blocked = λ o m f r. omega (arith, all k, left k o m r);
            };
        covers = covers;
        covers_others = covers_others;
      }
    where
      all : (k : ℕ) → load favoured s k ≤ total (map (weight favoured) s.orders)
      all k = total_mono (share favoured k) (weight favoured) s.orders (λ o m. share_most k o)

      left : (k : ℕ) (o : Order) → o ∈ s.orders → (serving s k).ticket ≡ o.ticket → (serving s k).left ≤ cost o k
      left k o m r = go (valid.service k)
        where
          go : (serving s k ≡ idle) ⊎ Busy s k → (serving s k).left ≤ cost o k
          go (inl e) = omega (arith, same_left e)
          go (inr w) = omega (arith, w.at_most, ap (λ (x : Order). cost x k) (unique s.orders valid.rising w.live m (sym w.served ∙ r)))

-- from a later station on
pub bounds_from : {favoured : Order → Bool} {s : State} {figure : ℕ} {M K : ℕ → ℕ} {i : ℕ} (j : ℕ) → i ≤ j → Bounds favoured s figure M K i → Bounds favoured s figure M K j
bounds_from j h b = record { bound = λ k low high. b.bound k (omega arith) high; covers = b.covers; covers_others = b.covers_others }
