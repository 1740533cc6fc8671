-- A sound state stays sound and in range as an arrival is accepted: a live order keeps its record but for a larger sum and larger maxima, and the questions say of the arrival what is asked of a record. Its ranks stay bytes where the arrival's are.
use mathlib.Core.Path.{◌≡◌, refl, ap, subst, ◌∙◌}
use mathlib.Core.Logic.{inl, inr}
use mathlib.Core.List.Memᴰ
use mathlib.Core.List.{List, [], ◌∷◌, map}
use Prim.Native.Nat.{ℕ, ◌+◌, ◌≤◌, ◌<◌}
use native.Mathlib.Omega.{arith}
use lib.ListN.{length, length-append, length-map}
use Rattle.model.specs.declared.Block.{Block}
use Rattle.model.specs.declared.Order.{Order}
use Rattle.model.specs.Limits.{max_stations, max_cost, max_due_in, last_ticket}
use Rattle.model.specs.Lists.{at, total}
use Rattle.model.specs.State.{State}
use Rattle.model.specs.DelayBound.{sum_of, maxima_of}
use Rattle.model.specs.Admission.{due_of, arrival, joined_by, joined_live, accept}
use Rattle.lists.proofs.Maxima.{length-larger}
use Rattle.schedule.specs.Valid.{◌∈◌, cost, Valid}
use Rattle.schedule.specs.Accept.{accept_next}
use Rattle.schedule.proofs.Laws.{eqb_cases, at-larger, at-replicate}
use Rattle.schedule.proofs.Accept.{Origin, old, new, origin, next_after, valid_accept}
use Rattle.image_laws.specs.InRange.{byte_limit, word_limit, Below, InRange, ByteRanks}
use Rattle.image_laws.specs.SoundFacts.{maximum, SoundOrder, SoundState, Shaped, SoundInRange}
use Rattle.image_laws.proofs.Sound.{sound_valid}
use Rattle.image_laws.proofs.Fits.{sound_fits}
use Rattle.call_laws.specs.Considered.{Fitting}
use Rattle.call_laws.specs.OfferExact.{InTime}

-- The maxima over the live orders are bounded by what bounds their costs, and no longer than these.
abbrev live_maxima : List Order → List ℕ
live_maxima l = maxima_of (map (λ (o : Order). o.costs) l)

maxima_most : (k bound : ℕ) (l : List Order) → ((o : Order) → o ∈ l → cost o k ≤ bound) → at 0 (live_maxima l) k ≤ bound
unfolding maxima_of
maxima_most k bound [] each = omega (arith, at-replicate {A = ℕ} 0 0 k)
maxima_most k bound (o ∷ l) each =
    omega (arith, at-larger o.costs (live_maxima l) k, each o (Memᴰ.head refl), maxima_most k bound l (λ p m. each p (Memᴰ.tail m)))

maxima_length : (n : ℕ) (l : List Order) → ((o : Order) → o ∈ l → length o.costs ≡ n) → length (live_maxima l) ≤ n
unfolding maxima_of
maxima_length n [] each = omega arith
maxima_length n (o ∷ l) each =
    omega (arith, length-larger o.costs (live_maxima l), each o (Memᴰ.head refl), maxima_length n l (λ p m. each p (Memᴰ.tail m)))

-- Both a due-in that is given and the default are in range.
pub due_bounds : (clock : ℕ) (b : Block) → b.due_in ≤ max_due_in → (clock + 1 ≤ due_of clock b) × (due_of clock b ≤ clock + max_due_in)
unfolding due_of
due_bounds clock b h = elim (eqb_cases b.due_in 0) [ inl t ↦ rw t.0 (omega arith) | inr t ↦ rw t.0 (omega (arith, t.1)) ]

module _ (s : State) (b : Block) where
  pub accept_length : length (accept s b).orders ≡ length s.orders + 1
  unfolding accept joined_live
  accept_length = length-append (joined_live s b) (arrival s b ∷ []) ∙ ap (λ (k : ℕ). k + 1) (length-map s.orders (joined_by b))

  -- What holds of the live orders with the arrival in their interference sets, and of the arrival, holds of those live after it.
  each_live : (P : Order → Type 0) → ((o : Order) → o ∈ s.orders → P (joined_by b o)) → P (arrival s b) → (o : Order) → o ∈ (accept s b).orders → P o
  unfolding accept accept_next
  each_live P joined own o m = go (origin (accept s b).next s b m)
    where
      go : Origin (accept s b).next s b o → P o
      go (old p q e) = subst P e (joined p q)
      go (new e) = subst P e own

  pub accept_byte_ranks : ByteRanks s → Below byte_limit b.ranks → ByteRanks (accept s b)
  unfolding arrival joined_by
  accept_byte_ranks live own = each_live (λ o. Below byte_limit o.ranks) live own

  pub maxima_joined : (k bound : ℕ) (o : Order) → at 0 b.costs k ≤ bound → maximum o k ≤ bound → maximum (joined_by b o) k ≤ bound
  unfolding joined_by
  maxima_joined k bound o p q = omega (arith, at-larger b.costs o.maxima k)

  pub maxima_own : (k bound : ℕ) → at 0 b.costs k ≤ bound → ((o : Order) → o ∈ s.orders → cost o k ≤ bound) → maximum (arrival s b) k ≤ bound
  unfolding arrival maxima_of
  maxima_own k bound p each = omega (arith, at-larger b.costs (live_maxima s.orders) k, maxima_most k bound s.orders each)

  module _ (h : SoundInRange s) (f : Fitting s b) (own : InTime s.n (arrival s b)) (others : (o : Order) → o ∈ s.orders → InTime s.n (joined_by b o)) where
    g : SoundState s
    g = h.facts

    valid : Valid (accept s b)
    unfolding accept accept_next
    valid =
        valid_accept (accept s b).next s b (sound_valid s h) (record { stations = g.n_low; ticket = f.ticket_left; costs = f.cost_low }) (next_after s)

    joined_sound : (o : Order) → o ∈ s.orders → SoundOrder s.n s.clock (joined_by b o)
    unfolding joined_by
    joined_sound o m =
        let r = g.orders o m in
        record {
          named = r.named;
          accepted = r.accepted;
          due_after = r.due_after;
          due_within = r.due_within;
          due_last = r.due_last;
          station_low = r.station_low;
          station_high = r.station_high;
          cost_low = r.cost_low;
          cost_high = r.cost_high;
          maximum_low = λ k low high. omega (arith, at-larger b.costs o.maxima k, r.maximum_low k low high);
          maximum_high = λ k low high. maxima_joined k max_cost o (f.cost_high k low high) (r.maximum_high k low high);
          sum = omega (arith, r.sum);
          on_time = others o m;
          rank_beyond = r.rank_beyond;
          cost_beyond = r.cost_beyond;
          maximum_beyond = λ k out. omega (arith, maxima_joined k 0 o (omega (arith, f.cost_beyond k out)) (omega (arith, r.maximum_beyond k out)));
        }

    arrival_sound : SoundOrder s.n s.clock (arrival s b)
    unfolding arrival sum_of total maxima_of
    arrival_sound =
        let due = due_bounds s.clock b f.due_in in
        record {
          named = f.ticket_left;
          accepted = omega arith;
          due_after = due.0;
          due_within = due.1;
          due_last = f.due_tick;
          station_low = omega arith;
          station_high = g.n_low;
          cost_low = f.cost_low;
          cost_high = f.cost_high;
          maximum_low = λ k low high. omega (arith, at-larger b.costs (live_maxima s.orders) k);
          maximum_high = λ k low high. maxima_own k max_cost (f.cost_high k low high) (λ o m. (g.orders o m).cost_high k low high);
          sum = omega arith;
          on_time = own;
          rank_beyond = f.rank_beyond;
          cost_beyond = f.cost_beyond;
          maximum_beyond = λ k out. omega (arith, maxima_own k 0 (omega (arith, f.cost_beyond k out)) (λ o m. omega (arith, (g.orders o m).cost_beyond k out)));
        }

    facts : SoundState (accept s b)
    unfolding accept joined_live
    facts =
        record {
          n_low = g.n_low;
          n_high = g.n_high;
          live = omega (arith, accept_length, f.room);
          clock = g.clock;
          rising = valid.rising;
          below = valid.below;
          orders = each_live (SoundOrder s.n s.clock) joined_sound arrival_sound;
          idle_beyond = g.idle_beyond;
          services = λ k low high. valid.service k;
        }

    module _ (eight_ranks : length b.ranks ≡ max_stations) (eight_costs : length b.costs ≡ max_stations) where
      next_fits : (accept s b).next < word_limit
      unfolding accept
      next_fits = elim (eqb_cases s.next last_ticket) [ inl t ↦ rw t.0 (omega arith) | inr t ↦ rw t.0 (omega (arith, t.1, h.in_range.next)) ]

      shaped : Shaped (accept s b)
      unfolding accept arrival joined_by maxima_of
      shaped =
          record {
            next = next_fits;
            eight = r.eight;
            ticket = each_live (λ o. o.ticket < word_limit) (λ o m. (r.orders o m).ticket) r.next;
            ranks = each_live (λ o. length o.ranks ≡ max_stations) (λ o m. (r.orders o m).ranks) eight_ranks;
            costs = each_live (λ o. length o.costs ≡ max_stations) (λ o m. (r.orders o m).costs.eight) eight_costs;
            maxima =
                each_live (λ o. length o.maxima ≡ max_stations) (λ o m. omega (arith, length-larger b.costs o.maxima, (r.orders o m).maxima.eight))
                (omega (arith, length-larger b.costs (live_maxima s.orders), maxima_length max_stations s.orders (λ o m. (r.orders o m).costs.eight)));
          }
        where
          r : InRange s
          r = h.in_range

      pub accept_sound : SoundInRange (accept s b)
      accept_sound = record { facts = facts; in_range = sound_fits (accept s b) facts shaped }
