-- The promise holds in a fresh state, every step keeps it, and while it holds each live order has its acceptance tick + delay bound still ahead.
use mathlib.Core.Path.{◌≡◌, refl, ap}
use mathlib.Core.Logic.{inl, inr}
use mathlib.Core.Bool.{true, false, true≢false}
use mathlib.Core.List.Memᴰ
use mathlib.Core.List.{List, [], ◌∷◌, map}
use Prim.Native.Nat.{ℕ, ◌≤◌, ◌<◌}
use native.Mathlib.Omega.{arith}
use Rattle.model.specs.declared.Order.{Order}
use Rattle.model.specs.declared.Service.{Service}
use Rattle.model.specs.Limits.{max_stations}
use Rattle.model.specs.Lists.{at, total, largest}
use Rattle.model.specs.State.{State, fresh}
use Rattle.model.specs.Tick.{move_to, starts}
use Rattle.model.specs.DelayBound.{sum_of, maxima_of, delay_bound, bound_tick}
use Rattle.model.specs.declared.Block.{Block}
use Rattle.model.specs.Admission.{arrival, joined_by}
use Rattle.schedule.specs.Valid.{◌∈◌, Ready}
use Rattle.schedule.specs.Pass.{Ticked, pass_to}
use Rattle.schedule.specs.Accept.{Acceptable, NextAfter, accept_next}
use Rattle.lists.proofs.Maxima.{at-larger}
use Rattle.schedule.proofs.Course.{valid_fresh}
use Rattle.delay.specs.Bound.{weight}
use Rattle.delay.specs.General.{Steady, Grows, GeneralBound, DelayTheorem}
use Rattle.delay.specs.Promise.{everybody, accepted_sum, maximum_at, nothing, Promise}
use Rattle.delay.proofs.Sums.{total_mono, map-map, up_to_both, up_to_zero, up_to_at}
use Rattle.delay.proofs.Bound.{weight_favoured, in_time}
use Rattle.delay.proofs.Starts.{bounded_starts}
use Rattle.delay.proofs.Pass.{bounded_pass}
use Rattle.delay.proofs.Accept.{bounded_accept}

-- the maxima over members cover each member
pub maxima_member : (members : List (List ℕ)) (k : ℕ) {costs : List ℕ} → costs ∈ members → at 0 costs k ≤ at 0 (maxima_of members) k
unfolding maxima_of
maxima_member [] k m = absurd (Memᴰ.not-nil m)
maxima_member (c ∷ cs) k {costs} m =
    elim (Memᴰ.cases_cons m) [
      | inl e ↦ omega (arith, at-larger c (maxima_of cs) k, ap (λ (x : List ℕ). at 0 x k) e)
      | inr q ↦ omega (arith, at-larger c (maxima_of cs) k, maxima_member cs k q)
    ]

impossible : {A : Type 0} → true ≡ false → A
impossible e = absurd (true≢false e)

-- ---- the theorem in its general form
pub delay_theorem : DelayTheorem
delay_theorem favoured figure M K =
    record {
      acceptances = bounded_accept favoured figure M K;
      starting = bounded_starts favoured figure M K;
      ticks = bounded_pass favoured figure M K;
      in_time = λ s inv t m f. in_time favoured s inv.valid (figure t) (M t) (K t) t m f (inv.held t m f);
    }

-- ---- a fresh state
pub promise_fresh : (n : ℕ) → n ≤ max_stations → Promise (fresh n)
unfolding fresh
promise_fresh n h = record { valid = valid_fresh n h; held = λ t m. absurd (Memᴰ.not-nil m) }

-- ---- the steps
by_delay_bound : GeneralBound everybody accepted_sum maximum_at nothing
by_delay_bound = delay_theorem everybody accepted_sum maximum_at nothing

pub promise_starts : (s : State) → Promise s → Promise (starts s)
promise_starts = by_delay_bound.starting (λ s valid k o c e. impossible e)

pub promise_pass : (ticked : List Service) (s : State) → Ticked s.services ticked → Ready s → Promise s → Promise (pass_to ticked s)
promise_pass = by_delay_bound.ticks steady
  where
    steady : Steady everybody accepted_sum maximum_at nothing
    steady = record { favoured_stays = λ k o. refl; figure_stays = λ k o. unfold move_to in refl; m_stays = λ k o. unfold move_to in refl; k_stays = λ k o. refl }

-- the work of everybody is the sum of the largest costs
weights : (l : List Order) → total (map (weight everybody) l) ≤ total (map largest (map (λ (o : Order). o.costs) l))
weights l = omega (arith, ap total (map-map largest (λ (o : Order). o.costs) l), total_mono (weight everybody) (λ (o : Order). largest o.costs) l (λ o m. omega (arith, weight_favoured everybody o refl)))

-- stored sums and maxima grow with an arrival as the bound asks
grows : (s : State) (b : Block) → Grows everybody accepted_sum maximum_at nothing s b
unfolding arrival joined_by sum_of maxima_of total
grows s b =
    record {
      favoured_stays = λ o. refl;
      figure_grows = λ o m f. omega (arith, work);
      m_grows = λ o k. omega (arith, at-larger b.costs o.maxima k);
      k_grows = λ o k. omega arith;
      m_covers = λ f o g k. omega (arith, at-larger b.costs o.maxima k);
      k_covers = λ f. impossible f;
      own_figure = λ f. omega (arith, work, weights s.orders);
      own_m = λ f k. (omega (arith, at-larger b.costs (maxima_of others) k), λ o m g. omega (arith, at-larger b.costs (maxima_of others) k, maxima_member others k (Memᴰ.map (λ (x : Order). x.costs) m)));
      own_k = λ f k o m g. impossible g;
    }
  where
    work : weight everybody (arrival s b) ≡ largest b.costs
    work = weight_favoured everybody (arrival s b) refl

    others : List (List ℕ)
    others = map (λ (o : Order). o.costs) s.orders

pub promise_accept : (next : ℕ) (s : State) (b : Block) → Acceptable s b → NextAfter s next → Promise s → Promise (accept_next next s b)
promise_accept next s b ok after inv = by_delay_bound.acceptances next s b ok after (grows s b) inv

-- ---- what the promise is for
pub live_in_time : (s : State) → 1 ≤ s.n → Promise s → (t : Order) → t ∈ s.orders → s.clock < bound_tick s.n t
unfolding bound_tick delay_bound
live_in_time s h inv t m = omega (arith, by_delay_bound.in_time s inv t m refl, up_to_both (maximum_at t) (nothing t) s.n, up_to_zero s.n, up_to_at t.maxima s.n h)
