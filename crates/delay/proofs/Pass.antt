-- A tick keeps the bounds, early ends or not, in a state where no idle station has a waiting order. At a busy station the ticks to go fall as the clock rises, or
-- the order leaves and takes its largest cost with it. At an idle one nobody is, so the bound comes from the station before, with a tick to spare.
use mathlib.Core.Path.{◌≡◌, sym, ap, subst, ◌∙◌}
use mathlib.Core.Logic.{◌⊎◌, inl, inr}
use mathlib.Core.Bool.{Bool, true, false}
use mathlib.Core.List.{List, map}
use Prim.Native.Nat.{ℕ, zero, suc, ◌+◌, ◌≤◌}
use native.Mathlib.Omega.{arith}
use lib.Dec.{leb}
use Rattle.model.specs.declared.Order.{Order}
use Rattle.model.specs.declared.Service.{Service}
use Rattle.model.specs.Lists.{at, total, largest}
use Rattle.model.specs.State.{State, idle}
use Rattle.model.specs.Tick.{move_to, leave}
use Rattle.schedule.specs.Valid.{◌∈◌, serving, cost, Busy, Valid, Ready}
use Rattle.schedule.specs.Pass.{Ticked, pass_to, moved, AtPass}
use Rattle.schedule.proofs.Laws.{same_ticket, same_left, test, at-largest}
use Rattle.schedule.proofs.Pass.{station_kept, moved_busy, pass_from, clock_pass, from_ticket, from_costs, serving_over, passes, valid_pass}
use Rattle.delay.specs.Bound.{up_to, both, weight, share, load, BoundAt, Bounds, Bounded}
use Rattle.delay.specs.General.{Steady}
use Rattle.delay.proofs.Sums.{total_mono, total_gap, total_only, map-map}
use Rattle.delay.proofs.Bound.{weight_favoured, share_in, share_out, share_further, next_bound, bounds_from}

module _ (favoured : Order → Bool) (stays : (k : ℕ) (o : Order) → favoured (move_to k o) ≡ favoured o) (ticked : List Service) (s : State) (valid : Valid s) (ticks : Ticked s.services ticked) where
  moved_favoured : (o : Order) → favoured (moved ticked o) ≡ favoured o
  moved_favoured o = stays _ o

  moved_weight : (o : Order) → weight favoured (moved ticked o) ≡ weight favoured o
  unfolding weight move_to
  moved_weight o = rw (moved_favoured o)

  moved_share : (k : ℕ) (o : Order) → share favoured k (moved ticked o) ≤ share favoured k o
  moved_share k o = share_further favoured k o (moved ticked o) (station_kept ticked o) (moved_weight o)

  load_pass : (k : ℕ) → load favoured (pass_to ticked s) k ≤ total (map (λ o. share favoured k (moved ticked o)) s.orders)
  unfolding pass_to leave
  load_pass k = omega (arith, total_only (λ (o : Order). leb o.station s.n) (share favoured k) (map (moved ticked) s.orders), ap total (map-map (share favoured k) (moved ticked) s.orders))

  load_falls : (k : ℕ) → load favoured (pass_to ticked s) k ≤ load favoured s k
  load_falls k = omega (arith, load_pass k, total_mono (λ o. share favoured k (moved ticked o)) (share favoured k) s.orders (λ o m. moved_share k o))

  -- a favoured order that leaves station k takes its largest cost with it
  load_drops : (k : ℕ) (o : Order) → o ∈ s.orders → favoured o ≡ true → o.station ≡ k → (moved ticked o).station ≡ k + 1 → load favoured (pass_to ticked s) k + largest o.costs ≤ load favoured s k
  load_drops k o m f e l =
      omega (
        arith,
        load_pass k,
        total_gap (λ p. share favoured k (moved ticked p)) (share favoured k) (largest o.costs) s.orders (λ p q. moved_share k p) o m
            (omega (arith, share_out favoured k (moved ticked o) (omega (arith, l)), share_in favoured k o (omega arith), weight_favoured favoured o f)),
      )

  leaves : (k : ℕ) (w : Busy s k) → (at idle ticked k).left ≡ 0 → (moved ticked w.order).station ≡ k + 1
  unfolding move_to
  leaves k w z = ap (λ (o : Order). o.station) (moved_busy ticked s valid ticks k w z)

  -- nobody has the ticket of an idle station
  no_name : {t : Order} → t ∈ (pass_to ticked s).orders → 0 ≡ t.ticket → ⊥
  no_name m e = let w = pass_from ticked s m in omega (arith, (valid.fit w.0 w.1).named, from_ticket ticked s m)

  was_favoured : {t : Order} (m : t ∈ (pass_to ticked s).orders) → favoured (pass_from ticked s m).0 ≡ favoured t
  was_favoured m = let w = pass_from ticked s m in sym (moved_favoured w.0) ∙ ap favoured w.2

  module _ (figure : ℕ) (M K : ℕ → ℕ) where
    -- at a station that is idle after the tick
    bound_idle : (k : ℕ) → serving (pass_to ticked s) k ≡ idle → s.clock + 1 + load favoured (pass_to ticked s) k ≤ figure + up_to (both M K) k + K k → BoundAt favoured (pass_to ticked s) figure M K k
    bound_idle k e h =
        let empty = same_ticket e in
        record {
          resting = λ z. omega (arith, clock_pass ticked s);
          working = λ o m f q. absurd (no_name m (sym empty ∙ q));
          blocked = λ o m f q. absurd (no_name m (sym empty ∙ q));
        }

    -- at a station that was busy
    bound_busy : ((o : Order) → o ∈ s.orders → favoured o ≡ false → (k : ℕ) → cost o k ≤ K k) → (k : ℕ) → BoundAt favoured s figure M K k → AtPass ticked s k → (serving s k ≡ idle → ⊥) → BoundAt favoured (pass_to ticked s) figure M K k
    bound_busy covers_others k b (AtPass.rests e q) busy = absurd (busy e)
    bound_busy covers_others k b (AtPass.ends w z q onward gone) busy = bound_idle k q free
      where
        free : s.clock + 1 + load favoured (pass_to ticked s) k ≤ figure + up_to (both M K) k + K k
        free =
            elim (test (favoured w.order)) [
              | inl f ↦ omega (arith, load_drops k w.order w.live f w.here (leaves k w z), at-largest w.order.costs k, b.working w.order w.live f w.served, w.some_left)
              | inr f ↦ omega (arith, load_falls k, covers_others w.order w.live f k, b.blocked w.order w.live f w.served, w.some_left)
            ]
    bound_busy covers_others k b (AtPass.goes_on w h q m) busy =
        let ticket = same_ticket q ∙ ticks.tickets k in
        let left : (serving (pass_to ticked s) k).left + 1 ≤ (serving s k).left = omega (arith, same_left q, h, ticks.less k) in
        record {
          resting = λ z. absurd (omega (arith, ticket, z, w.served, (valid.fit w.order w.live).named));
          working = λ o p f r.
              let v = pass_from ticked s p in
              omega (arith, clock_pass ticked s, left, load_falls k, from_costs ticked s p k, b.working v.0 v.1 (was_favoured p ∙ f) (sym ticket ∙ r ∙ sym (from_ticket ticked s p)));
          blocked = λ o p f r.
              let v = pass_from ticked s p in
              omega (arith, clock_pass ticked s, left, load_falls k, from_costs ticked s p k, b.blocked v.0 v.1 (was_favoured p ∙ f) (sym ticket ∙ r ∙ sym (from_ticket ticked s p)));
        }

    pub bounds_pass : Ready s → (t : Order) → t ∈ s.orders → favoured t ≡ true → Bounds favoured s figure M K t.station → Bounds favoured (pass_to ticked s) figure M K t.station
    unfolding pass_to leave
    bounds_pass ready t m f b =
        record {
          bound = λ k low high. go k low high (valid.service k);
          covers = λ o q e k. let w = pass_from ticked s q in omega (arith, from_costs ticked s q k, b.covers w.0 w.1 (was_favoured q ∙ e) k);
          covers_others = λ o q e k. let w = pass_from ticked s q in omega (arith, from_costs ticked s q k, b.covers_others w.0 w.1 (was_favoured q ∙ e) k);
        }
      where
        -- nobody is at an idle station
        nobody : (k : ℕ) → serving s k ≡ idle → (o : Order) → o ∈ s.orders → o.station ≡ k → ⊥
        nobody k e o q h = omega (arith, ready o q, same_ticket (ap (serving s) h ∙ e))

        go : (k : ℕ) → t.station ≤ k → k ≤ s.n → (serving s k ≡ idle) ⊎ Busy s k → BoundAt favoured (pass_to ticked s) figure M K k
        go zero low high w = absurd (omega (arith, (valid.fit t m).low))
        go (suc k) low high (inr w) = bound_busy b.covers_others (suc k) (b.bound (suc k) low high) ((passes ticked s valid ticks).stations (suc k)) (λ e. omega (arith, same_left e, w.some_left))
        go (suc k) low high (inl e) =
            bound_idle (suc k) (serving_over ticked s (suc k) (omega (arith, ticks.less (suc k), same_left e)))
            (omega (arith, load_falls (suc k), next_bound favoured s valid figure M K t m f k (elsewhere (nobody (suc k) e t m)) high (λ o q x. nobody (suc k) e o q) b))
          where
            elsewhere : (t.station ≡ suc k → ⊥) → t.station ≤ k
            elsewhere h = omega arith

pub bounded_pass : (favoured : Order → Bool) (figure : Order → ℕ) (M K : Order → ℕ → ℕ) → Steady favoured figure M K → (ticked : List Service) (s : State) → Ticked s.services ticked → Ready s → Bounded favoured figure M K s → Bounded favoured figure M K (pass_to ticked s)
bounded_pass favoured figure M K steady ticked s ticks ready inv =
    record {
      valid = valid_pass ticked s inv.valid ticks;
      held = λ t m f. let w = pass_from ticked s m in subst Held w.2 (moves w.0 w.1) f;
    }
  where
    Held : Order → Type 0
    Held t = favoured t ≡ true → Bounds favoured (pass_to ticked s) (figure t) (M t) (K t) t.station

    moves : (o : Order) → o ∈ s.orders → Held (moved ticked o)
    moves o m f =
        let g : favoured o ≡ true = sym (steady.favoured_stays _ o) ∙ f in
        rw (steady.figure_stays _ o, steady.m_stays _ o, steady.k_stays _ o)
        (bounds_from (moved ticked o).station (station_kept ticked o) (bounds_pass favoured steady.favoured_stays ticked s inv.valid ticks (figure o) (M o) (K o) ready o m g (inv.held o m g)))
