-- The starts keep the bounds: a start sets the ticks to go to the cost. Where an order that is not favoured starts, no favoured one is there, and the bound comes
-- from the station before.
use mathlib.Core.Path.{◌≡◌, sym, ap, ◌∙◌}
use mathlib.Core.Bool.{Bool, true, false}
use Prim.Native.Nat.{ℕ, zero, suc, ◌+◌, ◌≤◌}
use native.Mathlib.Omega.{arith}
use Rattle.model.specs.declared.Order.{Order}
use Rattle.model.specs.State.{State}
use Rattle.model.specs.Tick.{starts}
use Rattle.schedule.specs.Valid.{◌∈◌, serving, cost, Valid}
use Rattle.schedule.specs.Starts.{Started, AtStart, rests, begins, goes_on}
use Rattle.schedule.proofs.Laws.{same_ticket, same_left, unique}
use Rattle.schedule.proofs.Starts.{at_start, valid_starts}
use Rattle.delay.specs.Bound.{up_to, both, load, BoundAt, Bounds, Bounded}
use Rattle.delay.specs.General.{Prefers}
use Rattle.delay.proofs.Bound.{next_bound}

module _ (favoured : Order → Bool) (prefers : Prefers favoured) (s : State) (valid : Valid s) (figure : ℕ) (M K : ℕ → ℕ) (t : Order) (m : t ∈ s.orders) (f : favoured t ≡ true) (b : Bounds favoured s figure M K t.station) where
  clear : (k : ℕ) → t.station ≤ k → k ≤ s.n → (p : Order) → Started s k p → favoured p ≡ false → s.clock + load favoured s k ≤ figure + up_to (both M K) k
  clear zero low high p c e = absurd (omega (arith, (valid.fit t m).low))
  clear (suc k) low high p c e = omega (arith, next_bound favoured s valid figure M K t m f k (elsewhere (nobody t m f)) high nobody b)
    where
      nobody : (o : Order) → o ∈ s.orders → favoured o ≡ true → o.station ≡ suc k → ⊥
      nobody = prefers s valid (suc k) p c e

      elsewhere : (t.station ≡ suc k → ⊥) → t.station ≤ k
      elsewhere h = omega arith

  bound_starts : (k : ℕ) → t.station ≤ k → k ≤ s.n → AtStart s k → BoundAt favoured (starts s) figure M K k
  unfolding starts
  bound_starts k low high (rests e nobody q) =
      record {
        resting = λ z. (b.bound k low high).resting (same_ticket e);
        working = λ o m x r. absurd (omega (arith, same_ticket q, r, (valid.fit o m).named));
        blocked = λ o m x r. absurd (omega (arith, same_ticket q, r, (valid.fit o m).named));
      }
  bound_starts k low high (begins e p c) =
      record {
        resting = λ z. absurd (omega (arith, same_ticket c.entry, z, (valid.fit p c.waits.live).named));
        working = λ o m x r. omega (arith, same_left c.entry, (b.bound k low high).resting (same_ticket e), ap (λ (y : Order). cost y k) (same o m r));
        blocked = λ o m x r. omega (arith, same_left c.entry, clear k low high p c (ap favoured (sym (same o m r)) ∙ x), ap (λ (y : Order). cost y k) (same o m r));
      }
    where
      same : (o : Order) → o ∈ s.orders → (serving (starts s) k).ticket ≡ o.ticket → o ≡ p
      same o m r = unique s.orders valid.rising m c.waits.live (sym r ∙ same_ticket c.entry)
  bound_starts k low high (goes_on w q) =
      record {
        resting = λ z. (b.bound k low high).resting (same_ticket (sym q) ∙ z);
        working = λ o m x r. omega (arith, same_left q, (b.bound k low high).working o m x (same_ticket (sym q) ∙ r));
        blocked = λ o m x r. omega (arith, same_left q, (b.bound k low high).blocked o m x (same_ticket (sym q) ∙ r));
      }

  bounds_starts : Bounds favoured (starts s) figure M K t.station
  unfolding starts
  bounds_starts = record { bound = λ k low high. bound_starts k low high (at_start s valid k); covers = b.covers; covers_others = b.covers_others }

pub bounded_starts : (favoured : Order → Bool) (figure : Order → ℕ) (M K : Order → ℕ → ℕ) → Prefers favoured → (s : State) → Bounded favoured figure M K s → Bounded favoured figure M K (starts s)
unfolding starts
bounded_starts favoured figure M K prefers s inv =
    record {
      valid = valid_starts s inv.valid;
      held = λ t m f. bounds_starts favoured prefers s inv.valid (figure t) (M t) (K t) t m f (inv.held t m f);
    }
