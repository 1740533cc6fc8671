-- Every accepted order is served in full (`ServedInFull`): by induction over the steps, from what the starts and a tick do at its station.
use mathlib.Core.Path.{◌≡◌, refl, sym, ap, subst, ◌∙◌}
use mathlib.Core.Logic.{◌⊎◌, inl, inr, ◌≢◌}
use mathlib.Core.Bool.{cond}
use mathlib.Core.List.Memᴰ
use mathlib.Core.List.{List, [], ◌∷◌, map}
use Prim.Native.Nat.{ℕ, zero, suc, ◌+◌, ◌-◌, ◌≤◌, ◌<◌}
use native.Mathlib.Numerals.{add-one}
use native.Mathlib.Omega.{arith}
use lib.ListN.{length-replicate}
use lib.Dec.{eqb}
use Rattle.model.specs.declared.Order.{Order}
use Rattle.model.specs.declared.Service.{Service}
use Rattle.model.specs.Limits.{max_stations, last_ticket}
use Rattle.model.specs.Lists.{at}
use Rattle.model.specs.State.{State, idle, fresh}
use Rattle.model.specs.Tick.{one_less, move_to, starts, tick, leave, advance}
use Rattle.model.specs.declared.Block.{Block}
use Rattle.model.specs.Admission.{arrival, joined_by, accept}
use Rattle.schedule.specs.Valid.{◌∈◌, serving, cost, Waits, Busy, Valid}
use Rattle.schedule.specs.Starts.{AtStart}
use Rattle.schedule.specs.Pass.{pass_to, AtPass}
use Rattle.schedule.specs.Accept.{Acceptable, NextAfter, accept_next}
use Rattle.schedule.specs.Course.{Step, accepting, advancing, after, AllAcceptable, ReachedValid, during_ticks, Nowhere, OnlyAt, Course, stops, waits, begins, works, leaves, is_out, ServedInFull}
use Rattle.schedule.proofs.Laws.{same_ticket, same_left, EqCase, LeCase, unique, at_map, at-replicate, leb_cases, eqb_cases}
use Rattle.schedule.proofs.Starts.{starts_n, at_start, valid_starts}
use Rattle.schedule.proofs.Pass.{ticked_plain, plain_pass, from_ticket, pass_from, passes, valid_pass}
use Rattle.schedule.proofs.Accept.{plain_accept, next_after, Origin, old, new, origin, old_in, new_in, arrival_unserved, valid_accept}

-- ---- every state that steps lead to from a fresh one is valid
pub valid_fresh : (n : ℕ) → n ≤ max_stations → Valid (fresh n)
unfolding fresh
valid_fresh n h =
    record {
      entries = omega (arith, length-replicate max_stations idle);
      service = λ k. inl (at-replicate max_stations idle k);
      rising = tt;
      below = λ o m. absurd (Memᴰ.not-nil m);
      fit = λ o m. absurd (Memᴰ.not-nil m);
    }

pub valid_accepted : (s : State) (b : Block) → Valid s → Acceptable s b → Valid (accept s b)
valid_accepted s b valid ok = subst Valid (sym (plain_accept s b)) (valid_accept (cond (eqb s.next last_ticket) 0 (s.next + 1)) s b valid ok (next_after s))

module _ (s : State) (valid : Valid s) where
  pub advance_is : advance s ≡ pass_to (map one_less (starts s).services) (starts s)
  unfolding advance
  advance_is = plain_pass (starts s)

  pub valid_advance : Valid (advance s)
  valid_advance = subst Valid (sym advance_is) (valid_pass (map one_less (starts s).services) (starts s) (valid_starts s valid) (ticked_plain (starts s).services))

  stations_advance : (advance s).n ≡ s.n
  unfolding advance leave tick starts
  stations_advance = refl

valid_after : (steps : List Step) (s : State) → Valid s → AllAcceptable s steps → Valid (after s steps)
valid_after [] s valid ok = valid
valid_after (accepting b ∷ steps) s valid ok = valid_after steps (accept s b) (valid_accepted s b valid ok.0) ok.1
valid_after (advancing ∷ steps) s valid ok = valid_after steps (advance s) (valid_advance s valid) ok

pub reached_valid : ReachedValid
reached_valid n h steps ok = valid_after steps (fresh n) (valid_fresh n h) ok

-- ---- an order, by its ticket and its costs, in a state
record Held (s : State) (t : ℕ) (costs : List ℕ) (k : ℕ) : Type 0 where
  order : Order
  live : order ∈ s.orders
  named : order.ticket ≡ t
  priced : order.costs ≡ costs
  here : order.station ≡ k

record Waiting (s : State) (t : ℕ) (costs : List ℕ) (k : ℕ) : Type 0 where
  held : Held s t costs k
  unserved : (serving s k).ticket ≢ t

record Served (s : State) (t : ℕ) (costs : List ℕ) (k left : ℕ) : Type 0 where
  held : Held s t costs k
  entry : serving s k ≡ record { ticket = t; left = left }

-- it is out, and its ticket is not given again
record Gone (s : State) (t : ℕ) : Type 0 where
  named : 1 ≤ t
  absent : (o : Order) → o ∈ s.orders → o.ticket ≢ t
  given : (s.next ≡ 0) ⊎ (t < s.next)

module _ (s : State) (valid : Valid s) (t : ℕ) (costs : List ℕ) (k : ℕ) where
  -- an order is in service at no other station than its own
  own_station : Held s t costs k → (j : ℕ) → (serving s j).ticket ≡ t → j ≡ k
  own_station h j e = go (valid.service j)
    where
      go : (serving s j ≡ idle) ⊎ Busy s j → j ≡ k
      go (inl q) = absurd (omega (arith, same_ticket q, h.named, (valid.fit h.order h.live).named))
      go (inr w) = sym w.here ∙ ap (λ (o : Order). o.station) (unique s.orders valid.rising w.live h.live (sym w.served ∙ e ∙ sym h.named)) ∙ h.here

  nowhere : Waiting s t costs k → Nowhere t s.services
  nowhere w j e = w.unserved (ap (λ (i : ℕ). (serving s i).ticket) (sym (own_station w.held j e)) ∙ e)

  only_at : {left : ℕ} → Served s t costs k left → OnlyAt t k s.services
  only_at w = record { there = same_ticket w.entry; nowhere_else = λ j h e. h (own_station w.held j e) }

gone_nowhere : (s : State) → Valid s → (t : ℕ) → Gone s t → Nowhere t s.services
gone_nowhere s valid t g j e =
    elim (valid.service j) [
      | inl q ↦ omega (arith, same_ticket q, g.named)
      | inr w ↦ g.absent w.order w.live (sym w.served ∙ e)
    ]

-- ---- over the starts
module _ (s : State) (valid : Valid s) (t : ℕ) (costs : List ℕ) (k : ℕ) where
  held_starts : Held s t costs k → Held (starts s) t costs k
  unfolding starts
  held_starts h = record { order = h.order; live = h.live; named = h.named; priced = h.priced; here = h.here }

  as_waits : (w : Waiting s t costs k) → Waits s k w.held.order
  as_waits w = record { live = w.held.live; here = w.held.here; unserved = λ e. w.unserved (e ∙ w.held.named) }

  -- it starts there, or waits on
  waiting_starts : Waiting s t costs k → Waiting (starts s) t costs k ⊎ Served (starts s) t costs k (at 0 costs k)
  waiting_starts w = go (at_start s valid k)
    where
      go : AtStart s k → Waiting (starts s) t costs k ⊎ Served (starts s) t costs k (at 0 costs k)
      go (AtStart.rests e nobody q) = absurd (nobody w.held.order (as_waits w))
      go (AtStart.goes_on b q) = inl (record { held = held_starts w.held; unserved = λ e. w.unserved (same_ticket (sym q) ∙ e) })
      go (AtStart.begins e o b) = pick (eqb_cases o.ticket t)
        where
          pick : EqCase o.ticket t → Waiting (starts s) t costs k ⊎ Served (starts s) t costs k (at 0 costs k)
          pick (inl h) =
              let is : o ≡ w.held.order = unique s.orders valid.rising b.waits.live w.held.live (h.1 ∙ sym w.held.named) in
              let paid : cost o k ≡ at 0 costs k = ap (λ (c : List ℕ). at 0 c k) (ap (λ (x : Order). x.costs) is ∙ w.held.priced) in
              inr (record { held = held_starts w.held; entry = b.entry ∙ rw (h.1, paid) })
          pick (inr h) = inl (record { held = held_starts w.held; unserved = λ e. h.1 (same_ticket (sym b.entry) ∙ e) })

  served_starts : {left : ℕ} → Served s t costs k left → Served (starts s) t costs k left
  served_starts {left} w = go (at_start s valid k)
    where
      idle_not : serving s k ≡ idle → ⊥
      idle_not e = omega (arith, same_ticket e, same_ticket w.entry, w.held.named, (valid.fit w.held.order w.held.live).named)

      go : AtStart s k → Served (starts s) t costs k left
      go (AtStart.rests e nobody q) = absurd (idle_not e)
      go (AtStart.begins e o b) = absurd (idle_not e)
      go (AtStart.goes_on b q) = record { held = held_starts w.held; entry = q ∙ w.entry }

gone_starts : (s : State) (t : ℕ) → Gone s t → Gone (starts s) t
unfolding starts
gone_starts s t g = record { named = g.named; absent = g.absent; given = g.given }

-- ---- over a tick
module _ (s : State) (valid : Valid s) (t : ℕ) (costs : List ℕ) where
  abbrev ticked : List Service
  ticked = map one_less s.services

  abbrev next : State
  next = pass_to ticked s

  entry_ticked : (k : ℕ) → at idle ticked k ≡ one_less (serving s k)
  unfolding one_less
  entry_ticked k = at_map one_less idle refl s.services k

  at_pass : (k : ℕ) → AtPass ticked s k
  at_pass k = (passes ticked s valid (ticked_plain s.services)).stations k

  -- an entry with another ticket has another ticket after the tick
  other_stays : 1 ≤ t → (k : ℕ) → (serving s k).ticket ≢ t → (serving next k).ticket ≢ t
  unfolding one_less
  other_stays h k other e = go (at_pass k)
    where
      go : AtPass ticked s k → ⊥
      go (AtPass.rests p q) = omega (arith, same_ticket q)
      go (AtPass.ends w z q onward gone) = omega (arith, same_ticket q)
      go (AtPass.goes_on w z q m) = other (same_ticket (sym (entry_ticked k) ∙ sym q) ∙ e)

  held_named : (k : ℕ) → Held s t costs k → 1 ≤ t
  held_named k h = omega (arith, h.named, (valid.fit h.order h.live).named)

  waiting_tick : (k : ℕ) → Waiting s t costs k → Waiting next t costs k
  waiting_tick k w =
      let h = w.held in
      let stays = (passes ticked s valid (ticked_plain s.services)).waiting k h.order (as_waits s valid t costs k w) in
      record { held = record { order = h.order; live = stays; named = h.named; priced = h.priced; here = h.here }; unserved = other_stays (held_named k h) k w.unserved }

  -- the order in service at k is ours
  is_ours : (k left : ℕ) (w : Served s t costs k left) (b : Busy s k) → b.order ≡ w.held.order
  is_ours k left w b = unique s.orders valid.rising b.live w.held.live (sym b.served ∙ same_ticket w.entry ∙ sym w.held.named)

  not_idle : (k left : ℕ) → Served s t costs k left → serving s k ≡ idle → ⊥
  not_idle k left w e = omega (arith, held_named k w.held, same_ticket e, same_ticket w.entry)

  left_ticked : (k left : ℕ) → Served s t costs k left → at idle ticked k ≡ record { ticket = t; left = left - 1 }
  unfolding one_less
  left_ticked k left w = entry_ticked k ∙ ap one_less w.entry

  served_tick : (k left : ℕ) → Served s t costs k (suc (suc left)) → Served next t costs k (suc left)
  served_tick k left w = go (at_pass k)
    where
      less : at idle ticked k ≡ record { ticket = t; left = suc left }
      less = left_ticked k (suc (suc left)) w ∙ ap (λ (x : ℕ). record { ticket = t; left = x }) (omega arith)

      go : AtPass ticked s k → Served next t costs k (suc left)
      go (AtPass.rests e q) = absurd (not_idle k (suc (suc left)) w e)
      go (AtPass.ends b z q onward gone) = absurd (omega (arith, z, same_left less))
      go (AtPass.goes_on b z q m) =
          let h = w.held in
          record { held = record { order = h.order; live = subst (λ (o : Order). o ∈ next.orders) (is_ours k (suc (suc left)) w b) m; named = h.named; priced = h.priced; here = h.here }; entry = q ∙ less }

  -- with one tick to go it waits at the next station after it, or is out
  leaves_tick : (k : ℕ) → Served s t costs k 1 → Waiting next t costs (suc k) ⊎ ((k ≡ s.n) × Gone next t)
  unfolding move_to pass_to leave
  leaves_tick k w = go (at_pass k)
    where
      less : at idle ticked k ≡ record { ticket = t; left = 0 }
      less = left_ticked k 1 w

      h : Held s t costs k
      h = w.held

      next_free : (serving next (suc k)).ticket ≢ t
      next_free = other_stays (held_named k h) (suc k) (λ e. omega (arith, own_station s valid t costs k h (suc k) e))

      go : AtPass ticked s k → Waiting next t costs (suc k) ⊎ ((k ≡ s.n) × Gone next t)
      go (AtPass.rests e q) = absurd (not_idle k 1 w e)
      go (AtPass.goes_on b z q m) = absurd (omega (arith, z, same_left less))
      go (AtPass.ends b z q onward gone) = far (leb_cases (suc k) s.n)
        where
          is : b.order ≡ h.order
          is = is_ours k 1 w b

          far : LeCase (suc k) s.n → Waiting next t costs (suc k) ⊎ ((k ≡ s.n) × Gone next t)
          far (inl f) =
              inl (record {
                held = record { order = move_to (k + 1) b.order; live = onward f.1; named = ap (λ (o : Order). o.ticket) is ∙ h.named; priced = ap (λ (o : Order). o.costs) is ∙ h.priced; here = add-one k };
                unserved = next_free;
              })
          far (inr f) =
              let last : k ≡ s.n = omega (arith, f.1, h.here, (valid.fit h.order h.live).high) in
              inr (
                last,
                record {
                  named = held_named k h;
                  absent = λ o m e. gone last o m (e ∙ sym h.named ∙ ap (λ (x : Order). x.ticket) (sym is));
                  given = given (valid.below h.order h.live);
                },
              )
            where
              given : (s.next ≡ 0) ⊎ (h.order.ticket < s.next) → (next.next ≡ 0) ⊎ (t < next.next)
              given (inl z) = inl z
              given (inr z) = inr (omega (arith, h.named))

  gone_tick : Gone s t → Gone next t
  unfolding pass_to leave
  gone_tick g = record { named = g.named; absent = λ o m e. let w = pass_from ticked s m in g.absent w.0 w.1 (from_ticket ticked s m ∙ e); given = g.given }

-- ---- over an acceptance
module _ (s : State) (b : Block) (t : ℕ) (costs : List ℕ) (k : ℕ) where
  held_accept : Held s t costs k → Held (accept s b) t costs k
  unfolding accept accept_next joined_by
  held_accept h = record { order = joined_by b h.order; live = old_in (cond (eqb s.next last_ticket) 0 (s.next + 1)) s b h.live; named = h.named; priced = h.priced; here = h.here }

  waiting_accept : Waiting s t costs k → Waiting (accept s b) t costs k
  unfolding accept
  waiting_accept w = record { held = held_accept w.held; unserved = w.unserved }

  served_accept : {left : ℕ} → Served s t costs k left → Served (accept s b) t costs k left
  unfolding accept
  served_accept w = record { held = held_accept w.held; entry = w.entry }

gone_accept : (s : State) (b : Block) (t : ℕ) → Acceptable s b → Gone s t → Gone (accept s b) t
unfolding joined_by arrival accept_next
gone_accept s b t ok g = subst (λ (x : State). Gone x t) (sym (plain_accept s b)) (record { named = g.named; absent = λ o m. absent (origin after s b m); given = given g.given (next_after s) })
  where
    after : ℕ
    after = cond (eqb s.next last_ticket) 0 (s.next + 1)

    absent : {o : Order} → Origin after s b o → o.ticket ≢ t
    absent (old p m e) q = g.absent p m (ap (λ (x : Order). x.ticket) e ∙ q)
    absent (new e) q = elim g.given [ inl z ↦ omega (arith, ok.ticket) | inr h ↦ omega (arith, ap (λ (x : Order). x.ticket) e) ]

    given : (s.next ≡ 0) ⊎ (t < s.next) → NextAfter s after → (after ≡ 0) ⊎ (t < after)
    given h (inl z) = inl z
    given (inl h) (inr z) = absurd (omega (arith, ok.ticket))
    given (inr h) (inr z) = inr (omega arith)

-- ---- all together: from each place where an order can be, over any steps
module _ (n t : ℕ) (costs : List ℕ) (paid : (k : ℕ) → 1 ≤ k → k ≤ n → 1 ≤ at 0 costs k) where
  record Courses (ticks : List (List Service)) (s : State) : Type 0 where
    waiting : (k : ℕ) → Waiting s t costs k → Course n t costs k 0 ticks
    served : (k left : ℕ) → Served s t costs k (suc left) → Course n t costs k (suc left) ticks
    gone : (k : ℕ) → n < k → Gone s t → Course n t costs k 0 ticks

  -- one tick more in front
  module _ (later : List (List Service)) (s : State) (valid : Valid s) (e : s.n ≡ n) (rest : Courses later (advance s)) where
    abbrev now : State
    now = starts s

    here : Valid now
    here = valid_starts s valid

    -- what holds after the tick holds after the advance
    onward : (P : State → Type 0) → P (pass_to (map one_less now.services) now) → P (advance s)
    onward P p = subst P (sym (advance_is s valid)) p

    within_n : (k : ℕ) → Held s t costs k → (1 ≤ k) × (k ≤ n)
    within_n k h = let f = valid.fit h.order h.live in (omega (arith, f.low, h.here), omega (arith, f.high, h.here))

    serve : (k c : ℕ) → 1 ≤ c → Served now t costs k c → Course n t costs k c (now.services ∷ later)
    serve k zero h w = absurd (omega arith)
    serve k (suc (suc left)) h w = works (only_at now here t costs k w) (rest.served k left (onward (λ (x : State). Served x t costs k (suc left)) (served_tick now here t costs k left w)))
    serve k (suc zero) h w =
        leaves {later = later} (only_at now here t costs k w)
        (elim (leaves_tick now here t costs k w) [
          | inl q ↦ rest.waiting (suc k) (onward (λ (x : State). Waiting x t costs (suc k)) q)
          | inr q ↦ rest.gone (suc k) (omega (arith, q.0, starts_n s)) (onward (λ (x : State). Gone x t) q.1)
        ])

    courses_tick : Courses (now.services ∷ later) s
    courses_tick =
        record {
          waiting = λ k w.
              let h = within_n k w.held in
              elim (waiting_starts s valid t costs k w) [
                | inl q ↦ waits h.1 (nowhere now here t costs k q) (rest.waiting k (onward (λ (x : State). Waiting x t costs k) (waiting_tick now here t costs k q)))
                | inr q ↦ begins h.1 (paid k h.0 h.1) (serve k (at 0 costs k) (paid k h.0 h.1) q)
              ];
          served = λ k left w. serve k (suc left) (omega arith) (served_starts s valid t costs k w);
          gone = λ k h g. let q = gone_starts s t g in is_out h (gone_nowhere now here t q) (rest.gone k h (onward (λ (x : State). Gone x t) (gone_tick now here t costs q)));
        }

  courses : (steps : List Step) (s : State) → Valid s → s.n ≡ n → AllAcceptable s steps → Courses (during_ticks s steps) s
  unfolding accept
  courses [] s valid e ok = record { waiting = λ k w. stops; served = λ k left w. stops; gone = λ k h g. stops }
  courses (advancing ∷ steps) s valid e ok = courses_tick (during_ticks (advance s) steps) s valid e (courses steps (advance s) (valid_advance s valid) (stations_advance s valid ∙ e) ok)
  courses (accepting b ∷ steps) s valid e ok =
      let rest = courses steps (accept s b) (valid_accepted s b valid ok.0) e ok.1 in
      record {
        waiting = λ k w. rest.waiting k (waiting_accept s b t costs k w);
        served = λ k left w. rest.served k left (served_accept s b t costs k w);
        gone = λ k h g. rest.gone k h (gone_accept s b t ok.0 g);
      }

pub served_in_full : ServedInFull
unfolding accept accept_next arrival
served_in_full s valid b ok steps allowed =
    (courses s.n s.next b.costs ok.costs steps (accept s b) (valid_accepted s b valid ok) refl allowed).waiting 1
    (record {
      held = record { order = arrival s b; live = new_in (cond (eqb s.next last_ticket) 0 (s.next + 1)) s b; named = refl; priced = refl; here = refl };
      unserved = arrival_unserved 0 s b valid ok 1;
    })
