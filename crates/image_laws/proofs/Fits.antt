-- The facts of a sound state bound its figures: ticks by 4,000,000,000, costs and maxima by 6,000, a sum by its due tick, an entry by the order that it serves.
use mathlib.Core.Path.{◌≡◌}
use mathlib.Core.Logic.{◌⊎◌, inl, inr}
use mathlib.Core.List.Memᴰ
use mathlib.Core.List.{List, [], ◌∷◌}
use Prim.Native.Nat.{ℕ, suc, ◌≤◌, ◌<◌}
use native.Mathlib.Omega.{arith}
use lib.ListN.{get_or}
use Rattle.model.specs.declared.Order.{Order}
use Rattle.model.specs.Limits.{max_cost}
use Rattle.model.specs.Lists.{at}
use Rattle.model.specs.State.{State, idle}
use Rattle.model.specs.DelayBound.{delay_bound}
use Rattle.schedule.specs.Valid.{◌∈◌, serving, Busy}
use Rattle.schedule.proofs.Laws.{leb_cases, same_ticket, same_left}
use Rattle.image_laws.specs.InRange.{half_limit, Below, ServiceInRange, OrderInRange}
use Rattle.image_laws.specs.SoundFacts.{SoundState, Shaped, SoundFits}

in_get_d : {A : Type 0} {a : A} (d : A) (l : List A) → a ∈ l → (i : ℕ) × (a ≡ get_or l i d)
in_get_d d [] m = absurd (Memᴰ.not-nil m)
in_get_d d (x ∷ l) m = elim (Memᴰ.cases_cons m) [ inl e ↦ (0, e) | inr q ↦ let w = in_get_d d l q in (suc w.0, w.1) ]

row_below : (n : ℕ) (l : List ℕ) → ((k : ℕ) → 1 ≤ k → k ≤ n → at 0 l k ≤ max_cost) → ((k : ℕ) → n < k → at 0 l k ≡ 0) → Below half_limit l
row_below n l high beyond i =
    elim (leb_cases (suc i) n) [ inl t ↦ omega (arith, high (suc i) (omega arith) t.1) | inr t ↦ omega (arith, beyond (suc i) t.1) ]

module _ (s : State) (g : SoundState s) (h : Shaped s) where
  order_fits : (o : Order) → o ∈ s.orders → OrderInRange o
  unfolding delay_bound
  order_fits o m =
      let r = g.orders o m in
      record {
        ticket = h.ticket o m;
        accepted = omega (arith, r.accepted, g.clock);
        due = omega (arith, r.due_last);
        sum = omega (arith, r.on_time, r.due_last);
        station = omega (arith, r.station_high, g.n_high);
        ranks = h.ranks o m;
        costs = record { eight = h.costs o m; below = row_below s.n o.costs r.cost_high r.cost_beyond };
        maxima = record { eight = h.maxima o m; below = row_below s.n o.maxima r.maximum_high r.maximum_beyond };
      }

  idle_fits : (k : ℕ) → serving s k ≡ idle → ServiceInRange (serving s k)
  idle_fits k e = record { ticket = omega (arith, same_ticket e); left = omega (arith, same_left e) }

  entry_fits : (k : ℕ) → 1 ≤ k → k ≤ s.n → (serving s k ≡ idle) ⊎ Busy s k → ServiceInRange (serving s k)
  entry_fits k low high (inl e) = idle_fits k e
  entry_fits k low high (inr w) =
      record {
        ticket = omega (arith, w.served, h.ticket w.order w.live);
        left = omega (arith, w.at_most, (g.orders w.order w.live).cost_high k low high);
      }

  station_fits : (i : ℕ) → ServiceInRange (get_or s.services i idle)
  station_fits i =
      elim (leb_cases (suc i) s.n) [ inl t ↦ entry_fits (suc i) (omega arith) t.1 (g.services (suc i) (omega arith) t.1) | inr t ↦ idle_fits (suc i) (g.idle_beyond (suc i) t.1) ]

pub sound_fits : SoundFits
sound_fits s g h =
    record {
      n = omega (arith, g.n_high);
      clock = omega (arith, g.clock);
      next = h.next;
      eight = h.eight;
      services = λ e m. let w = in_get_d idle s.services m in rw w.1 (station_fits s g h w.0);
      live = g.live;
      orders = order_fits s g h;
    }
