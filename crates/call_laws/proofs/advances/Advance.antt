-- A sound state stays sound and in range through a tick. Its stations and tickets are those of a valid state; a live order after the tick is one from before it, moved to a station of the pipeline and else unchanged.
use mathlib.Core.Path.{◌≡◌, ap, subst}
use mathlib.Core.Logic.{inl, inr}
use mathlib.Core.Bool.{Bool}
use mathlib.Core.List.{List, [], ◌∷◌, map}
use Prim.Native.Nat.{ℕ, ◌+◌, ◌≤◌, ◌<◌}
use native.Mathlib.Omega.{arith}
use lib.ListN.{length, length-map}
use lib.Dec.{leb}
use Rattle.model.specs.declared.Order.{Order}
use Rattle.model.specs.declared.Service.{Service}
use Rattle.model.specs.Limits.{max_stations, max_live, last_tick}
use Rattle.model.specs.Lists.{only, numbered}
use Rattle.model.specs.State.{State, idle}
use Rattle.model.specs.Tick.{view, start_at, start_each, one_less, vacate, move_to, starts, tick, leave, advance}
use Rattle.schedule.specs.Valid.{◌∈◌, serving, Valid}
use Rattle.schedule.specs.Pass.{pass_to, moved}
use Rattle.schedule.proofs.Laws.{by_cond, length-numbered}
use Rattle.schedule.proofs.Pass.{station_kept, pass_from}
use Rattle.schedule.proofs.Course.{valid_advance}
use Rattle.image_laws.specs.InRange.{byte_limit, word_limit, Below, InRange, ByteRanks}
use Rattle.image_laws.specs.SoundFacts.{SoundOrder, SoundState, Shaped, SoundInRange}
use Rattle.image_laws.proofs.Sound.{sound_valid}
use Rattle.image_laws.proofs.Fits.{sound_fits}
use Rattle.call_laws.specs.AdvanceKept.{AdvanceSound}

length-only : {A : Type 0} (p : A → Bool) (l : List A) → length (only p l) ≤ length l
unfolding only
length-only p [] = omega arith
length-only p (x ∷ l) =
    by_cond (λ m. length m ≤ length (x ∷ l)) (p x) {x = x ∷ only p l} {y = only p l} (omega (arith, length-only p l)) (omega (arith, length-only p l))

-- The entries as the tick leaves them, before orders with nothing to go leave.
abbrev ticked : State → List Service
ticked s = map one_less (starts s).services

module _ (s : State) where
  few_live : length s.orders ≤ max_live → length (advance s).orders ≤ max_live
  unfolding advance leave tick starts
  few_live h =
      let within = map (moved (ticked s)) s.orders in
      omega (arith, length-only (λ (o : Order). leb o.station s.n) within, length-map s.orders (moved (ticked s)))

  eight_services : length s.services ≡ max_stations → length (advance s).services ≡ max_stations
  unfolding advance leave tick starts start_each
  eight_services h =
      let started = numbered (start_at (map view s.orders)) 1 s.services in
      omega (arith, length-map (map one_less started) vacate, length-map started one_less, length-numbered (start_at (map view s.orders)) 1 s.services)

  pub advance_byte_ranks : ByteRanks s → ByteRanks (advance s)
  unfolding advance pass_to tick starts move_to
  advance_byte_ranks ranks o m =
      let w = pass_from (ticked s) (starts s) m in
      subst (λ (x : Order). Below byte_limit x.ranks) w.2 (ranks w.0 w.1)

  module _ (h : SoundInRange s) (early : s.clock < last_tick) where
    g : SoundState s
    g = h.facts

    valid : Valid (advance s)
    valid = valid_advance s (sound_valid s h)

    moved_sound : (o : Order) → o ∈ s.orders → (k : ℕ) → 1 ≤ k → k ≤ s.n → SoundOrder s.n (s.clock + 1) (move_to k o)
    unfolding move_to
    moved_sound o m k low high =
        let r = g.orders o m in
        record {
          named = r.named;
          accepted = omega (arith, r.accepted);
          due_after = r.due_after;
          due_within = r.due_within;
          due_last = r.due_last;
          station_low = low;
          station_high = high;
          cost_low = r.cost_low;
          cost_high = r.cost_high;
          maximum_low = r.maximum_low;
          maximum_high = r.maximum_high;
          sum = r.sum;
          on_time = r.on_time;
          rank_beyond = r.rank_beyond;
          cost_beyond = r.cost_beyond;
          maximum_beyond = r.maximum_beyond;
        }

    -- What holds of the live orders wherever they move holds of those live after the tick.
    each_live : (P : Order → Type 0) → ((o : Order) → o ∈ s.orders → (k : ℕ) → 1 ≤ k → k ≤ s.n → P (move_to k o)) → (o : Order) → o ∈ (advance s).orders → P o
    unfolding advance pass_to tick starts move_to
    each_live P each o m =
        let w = pass_from (ticked s) (starts s) m in
        let k = (moved (ticked s) w.0).station in
        subst P w.2 (each w.0 w.1 k (omega (arith, station_kept (ticked s) w.0, (g.orders w.0 w.1).station_low)) (omega (arith, ap (λ (x : Order). x.station) w.2, w.3)))

    -- A busy station has an order, which is within the pipeline.
    idle_beyond : (k : ℕ) → (advance s).n < k → serving (advance s) k ≡ idle
    idle_beyond k out = elim (valid.service k) [ inl e ↦ e | inr w ↦ absurd (omega (arith, w.here, (valid.fit w.order w.live).high)) ]

    facts : SoundState (advance s)
    unfolding advance leave tick starts
    facts =
        record {
          n_low = g.n_low;
          n_high = g.n_high;
          live = few_live g.live;
          clock = omega arith;
          rising = valid.rising;
          below = valid.below;
          orders = each_live (SoundOrder s.n (s.clock + 1)) moved_sound;
          idle_beyond = idle_beyond;
          services = λ k low high. valid.service k;
        }

    shaped : Shaped (advance s)
    unfolding advance leave tick starts move_to
    shaped =
        record {
          next = r.next;
          eight = eight_services r.eight;
          ticket = each_live (λ o. o.ticket < word_limit) (λ o m k a b. (r.orders o m).ticket);
          ranks = each_live (λ o. length o.ranks ≡ max_stations) (λ o m k a b. (r.orders o m).ranks);
          costs = each_live (λ o. length o.costs ≡ max_stations) (λ o m k a b. (r.orders o m).costs.eight);
          maxima = each_live (λ o. length o.maxima ≡ max_stations) (λ o m k a b. (r.orders o m).maxima.eight);
        }
      where
        r : InRange s
        r = h.in_range

pub advance_sound : AdvanceSound
advance_sound s h early = let f = facts s h early in record { facts = f; in_range = sound_fits (advance s) f (shaped s h early) }
