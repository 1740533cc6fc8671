-- Step 1: at each station of a valid state the starts do what `AtStart` says; they leave the state valid, and then no idle station has a waiting order.
use mathlib.Core.Path.{◌≡◌, refl, sym, ap, subst, ◌∙◌}
use mathlib.Core.Logic.{◌⊎◌, inl, inr}
use mathlib.Core.Bool.{false}
use mathlib.Core.List.Memᴰ
use mathlib.Core.List.{List, map}
use mathlib.Core.Option.{Option, none, some}
use Prim.Native.Nat.{ℕ, zero, suc, ◌≤◌, ◌<◌}
use native.Mathlib.Omega.{arith}
use lib.ListN.{length}
use borrow.Author.Tests.{ne_eqb}
use Rattle.model.specs.declared.Order.{Order}
use Rattle.model.specs.declared.Service.{Service}
use Rattle.model.specs.Lists.{numbered}
use Rattle.model.specs.State.{State, idle}
use Rattle.model.specs.Tick.{View, view, precedes, first, entry_of, start_at, start_each, starts}
use Rattle.schedule.specs.Valid.{◌∈◌, serving, Waits, Busy, Fit, Valid, Ready}
use Rattle.schedule.specs.Starts.{AtStart, rests, begins, goes_on, StartsAsAsked}
use Rattle.schedule.proofs.Laws.{same_ticket, same_left, LeCase, leb_cases, at-numbered, at-beyond, length-numbered}
use Rattle.schedule.proofs.Precedence.{Leads, leads}
use Rattle.schedule.proofs.Choice.{first_none, first_some}

views : State → List View
views s = map view s.orders

pub starts_n : (s : State) → (starts s).n ≡ s.n
unfolding starts
starts_n s = refl

module _ (s : State) (valid : Valid s) where
  -- a busy station's ticket is not 0
  pub busy_named : (k : ℕ) → Busy s k → 1 ≤ (serving s k).ticket
  busy_named k w = omega (arith, w.served, (valid.fit w.order w.live).named)

  -- no live order is in service at an idle station
  pub waits_idle : (k : ℕ) → serving s k ≡ idle → (o : Order) → o ∈ s.orders → o.station ≡ k → Waits s k o
  waits_idle k e o m h = record { live = m; here = h; unserved = λ q. omega (arith, same_ticket e, (valid.fit o m).named) }

  -- the entry of station k after the starts, at stations that there are and at others
  serving_starts : (k : ℕ) → 1 ≤ k → k ≤ length s.services → serving (starts s) k ≡ start_at (views s) k (serving s k)
  unfolding starts start_each views
  serving_starts k low high = at-numbered (start_at (map view s.orders)) s.services idle k low high

  serving_beyond : (k : ℕ) → length s.services < k → serving (starts s) k ≡ idle
  unfolding starts start_each
  serving_beyond k h = at-beyond idle (numbered (start_at (map view s.orders)) 1 s.services) k (omega (arith, length-numbered (start_at (map view s.orders)) 1 s.services))

  start_idle : (k : ℕ) (x : Option View) → first k (views s) ≡ x → start_at (views s) k idle ≡ entry_of k x
  unfolding start_at
  start_idle k x e = ap (entry_of k) e

  start_busy : (k : ℕ) (v : Service) → 1 ≤ v.ticket → start_at (views s) k v ≡ v
  unfolding start_at
  start_busy k v h = rw (ne_eqb v.ticket 0 (λ z. omega arith))

  -- an idle station within the list: the choice decides
  choose : (k : ℕ) → serving s k ≡ idle → serving (starts s) k ≡ start_at (views s) k (serving s k) → (x : Option View) → first k (views s) ≡ x → AtStart s k
  unfolding views entry_of view
  choose k e now none p = rests e (λ o w. first_none k (map view s.orders) p (view o) (Memᴰ.map view w.live) w.here) (now ∙ ap (start_at (views s) k) e ∙ start_idle k none p)
  choose k e now (some v) p =
      let c = first_some k (map view s.orders) v p in
      let w = Memᴰ.of_map view s.orders c.live in
      let o = w.0 in
      let is : v ≡ view o = sym w.2 in
      let here : o.station ≡ k = ap (λ (x : View). x.station) w.2 ∙ c.here in
      let goes_first : (q : Order) → Waits s k q → Leads k (view o) (view q) = λ q h. leads k (view o) (view q) (subst (λ (x : View). precedes k (view q) x ≡ false) is (c.unpreceded (view q) (Memᴰ.map view h.live) h.here)) in
      begins e o (record {
        waits = waits_idle k e o w.1 here;
        entry = now ∙ ap (start_at (views s) k) e ∙ start_idle k (some v) p ∙ ap (λ (x : View). entry_of k (some x)) is;
        smallest_rank = λ q h. (goes_first q h).by_rank;
        earliest_due = λ q h. (goes_first q h).by_due;
        smallest_ticket = λ q h. (goes_first q h).by_ticket;
      })

  -- a station that there is none of stays idle, and nobody waits there
  nowhere : (k : ℕ) → ((o : Order) → o ∈ s.orders → o.station ≡ k → ⊥) → serving s k ≡ idle → serving (starts s) k ≡ idle → AtStart s k
  nowhere k nobody e q = rests e (λ o w. nobody o w.live w.here) q

  pub at_start : (k : ℕ) → AtStart s k
  at_start zero = nowhere zero (λ o m h. omega (arith, (valid.fit o m).low)) refl refl
  at_start (suc k) = go (leb_cases (suc k) (length s.services))
    where
      there : (h : suc k ≤ length s.services) → (serving s (suc k) ≡ idle) ⊎ Busy s (suc k) → AtStart s (suc k)
      there h (inl e) = choose (suc k) e (serving_starts (suc k) (omega arith) h) (first (suc k) (views s)) refl
      there h (inr w) = goes_on w (serving_starts (suc k) (omega arith) h ∙ start_busy (suc k) (serving s (suc k)) (busy_named (suc k) w))

      go : LeCase (suc k) (length s.services) → AtStart s (suc k)
      go (inl h) = there h.1 (valid.service (suc k))
      go (inr h) = nowhere (suc k) (λ o m e. omega (arith, h.1, valid.entries, (valid.fit o m).high)) (at-beyond idle s.services (suc k) h.1) (serving_beyond (suc k) h.1)

  pub valid_starts : Valid (starts s)
  unfolding starts start_each
  valid_starts =
      record {
        entries = omega (arith, valid.entries, length-numbered (start_at (map view s.orders)) 1 s.services);
        service = λ k. go k (at_start k);
        rising = valid.rising;
        below = valid.below;
        fit = valid.fit;
      }
    where
      go : (k : ℕ) → AtStart s k → (serving (starts s) k ≡ idle) ⊎ Busy (starts s) k
      go k (rests e nobody q) = inl q
      go k (begins e o b) =
          let fit : Fit s.n o = valid.fit o b.waits.live in
          let here : o.station ≡ k = b.waits.here in
          inr (record {
            order = o;
            live = b.waits.live;
            here = here;
            served = same_ticket b.entry;
            some_left = omega (arith, same_left b.entry, fit.costs k (omega (arith, fit.low)) (omega (arith, fit.high)));
            at_most = omega (arith, same_left b.entry);
          })
      go k (goes_on w q) =
          inr (record {
            order = w.order;
            live = w.live;
            here = w.here;
            served = same_ticket q ∙ w.served;
            some_left = omega (arith, same_left q, w.some_left);
            at_most = omega (arith, same_left q, w.at_most);
          })

  pub ready_starts : Ready (starts s)
  unfolding starts
  ready_starts o m = go (at_start o.station)
    where
      go : AtStart s o.station → 1 ≤ (serving (starts s) o.station).ticket
      go (rests e nobody q) = absurd (nobody o (waits_idle o.station e o m refl))
      go (begins e p b) = omega (arith, same_ticket b.entry, (valid.fit p b.waits.live).named)
      go (goes_on w q) = omega (arith, same_ticket q, w.served, (valid.fit w.order w.live).named)

pub starts_as_asked : StartsAsAsked
starts_as_asked s valid k = at_start s valid k
