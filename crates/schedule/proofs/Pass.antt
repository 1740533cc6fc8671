-- Steps 2 and 3: at each station of a valid state a tick does what `AtPass` says, and leaves the state valid.
use mathlib.Core.Path.{◌≡◌, refl, sym, ap, ◌∙◌}
use mathlib.Core.Logic.{◌⊎◌, inl, inr}
use mathlib.Core.Bool.{true, false}
use mathlib.Core.List.Memᴰ
use mathlib.Core.List.{List, map}
use Prim.Native.Nat.{ℕ, ◌+◌, ◌≤◌, ◌<◌}
use native.Mathlib.Omega.{arith}
use lib.ListN.{length-map}
use lib.Dec.{leb, eqb}
use borrow.Author.Tests.{le-leb, leb-true, eq-eqb, ne_eqb}
use Rattle.model.specs.declared.Order.{Order}
use Rattle.model.specs.declared.Service.{Service}
use Rattle.model.specs.Lists.{at}
use Rattle.model.specs.State.{State, idle}
use Rattle.model.specs.Tick.{View, view, one_less, station_after, vacate, move_to, tick, leave}
use Rattle.schedule.specs.Valid.{◌∈◌, serving, cost, Waits, Busy, Fit, Valid}
use Rattle.schedule.specs.Pass.{Ticked, pass_to, moved, AtPass, rests, goes_on, ends, Passes, PassesAsAsked}
use Rattle.schedule.proofs.Laws.{same_ticket, same_left, EqCase, eqb_cases, at_map, only_in, in_only, unique, rising_map, rising_only}

-- ---- a tick without early ends
pub ticked_plain : (l : List Service) → Ticked l (map one_less l)
unfolding one_less
ticked_plain l = record { count = length-map l one_less; tickets = λ k. same_ticket (at_map one_less idle refl l k); less = λ k. omega (arith, same_left (at_map one_less idle refl l k)) }

pub plain_pass : (s : State) → leave (tick s) ≡ pass_to (map one_less s.services) s
unfolding pass_to tick
plain_pass s = refl

-- ---- where an order is after a tick
pub data Onward (services : List Service) (v : View) : Type 0 where
  stays : station_after services v ≡ v.station → Onward services v
  leaves : station_after services v ≡ v.station + 1 → (at idle services v.station).ticket ≡ v.ticket → (at idle services v.station).left ≡ 0 → Onward services v

pub onward : (services : List Service) (v : View) → Onward services v
unfolding station_after
onward services v = go (eqb_cases (at idle services v.station).ticket v.ticket) (eqb_cases (at idle services v.station).left 0)
  where
    go : EqCase (at idle services v.station).ticket v.ticket → EqCase (at idle services v.station).left 0 → Onward services v
    go (inr p) q = stays (rw p.0)
    go (inl p) (inr q) = stays (rw (p.0, q.0))
    go (inl p) (inl q) = leaves (rw (p.0, q.0)) p.1 q.1

-- ---- an order after a tick
module _ (ticked : List Service) where
  abbrev pub Over : ℕ → Type 0
  Over k = (at idle ticked k).left ≡ 0

  pub moved_ticket : (o : Order) → (moved ticked o).ticket ≡ o.ticket
  unfolding move_to
  moved_ticket o = refl

  pub moved_costs : (o : Order) → (moved ticked o).costs ≡ o.costs
  unfolding move_to
  moved_costs o = refl

  pub station_kept : (o : Order) → o.station ≤ (moved ticked o).station
  unfolding move_to view
  station_kept o = elim (onward ticked (view o)) [ stays e ↦ omega (arith, e) | leaves e t z ↦ omega (arith, e) ]

  moved_on : (o : Order) → (at idle ticked o.station).ticket ≡ o.ticket → Over o.station → moved ticked o ≡ move_to (o.station + 1) o
  unfolding station_after view
  moved_on o e z = rw (eq-eqb (at idle ticked o.station).ticket o.ticket e, z)

  pub moved_stays : (o : Order) → ((at idle ticked o.station).ticket ≡ o.ticket → Over o.station → ⊥) → moved ticked o ≡ o
  unfolding view move_to
  moved_stays o h = elim (onward ticked (view o)) [ stays e ↦ ap (λ (k : ℕ). move_to k o) e | leaves e t z ↦ absurd (h t z) ]

  -- ---- the live orders after a tick are those before it, moved, that are still within the pipeline
  module _ (s : State) where
    pub pass_in_lem : {o : Order} → o ∈ s.orders → (moved ticked o).station ≤ s.n → moved ticked o ∈ (pass_to ticked s).orders
    unfolding pass_to leave
    pass_in_lem {o} m h = in_only (λ (x : Order). leb x.station s.n) (map (moved ticked) s.orders) (Memᴰ.map (moved ticked) m) (le-leb (moved ticked o).station s.n h)

    pub pass_from : {t : Order} → t ∈ (pass_to ticked s).orders → (o : Order) × (o ∈ s.orders) × (moved ticked o ≡ t) × (t.station ≤ s.n)
    unfolding pass_to leave
    pass_from {t} m =
        let a = only_in (λ (x : Order). leb x.station s.n) (map (moved ticked) s.orders) m in
        let w = Memᴰ.of_map (moved ticked) s.orders a.0 in
        (w.0, w.1, w.2, leb-true t.station s.n a.1)

    pub clock_pass : (pass_to ticked s).clock ≡ s.clock + 1
    unfolding pass_to leave
    clock_pass = refl

    -- an order after the tick has the ticket and the costs of the one before it
    pub from_ticket : {t : Order} (m : t ∈ (pass_to ticked s).orders) → (pass_from m).0.ticket ≡ t.ticket
    from_ticket m = let w = pass_from m in sym (moved_ticket w.0) ∙ ap (λ (x : Order). x.ticket) w.2

    pub from_costs : {t : Order} (m : t ∈ (pass_to ticked s).orders) (k : ℕ) → cost (pass_from m).0 k ≡ cost t k
    from_costs m k = let w = pass_from m in ap (λ (c : List ℕ). at 0 c k) (sym (moved_costs w.0) ∙ ap (λ (x : Order). x.costs) w.2)

    -- ---- the entries after a tick
    serving_pass : (k : ℕ) → serving (pass_to ticked s) k ≡ vacate (at idle ticked k)
    unfolding pass_to leave vacate
    serving_pass k = at_map vacate idle refl ticked k

    pub serving_over : (k : ℕ) → Over k → serving (pass_to ticked s) k ≡ idle
    unfolding vacate
    serving_over k e = serving_pass k ∙ rw e

    pub serving_on : (k : ℕ) → 1 ≤ (at idle ticked k).left → serving (pass_to ticked s) k ≡ at idle ticked k
    unfolding vacate
    serving_on k h = serving_pass k ∙ rw (ne_eqb (at idle ticked k).left 0 (λ z. omega arith))

    module _ (valid : Valid s) (ticks : Ticked s.services ticked) where
      -- an order that leaves was in service
      pub served_before : (o : Order) → (at idle ticked o.station).ticket ≡ o.ticket → (serving s o.station).ticket ≡ o.ticket
      served_before o e = sym (ticks.tickets o.station) ∙ e

      -- an order that waits stays
      pub waiting_stays : (k : ℕ) (o : Order) → Waits s k o → moved ticked o ≡ o
      waiting_stays k o w = moved_stays o (λ e z. w.unserved (ap (λ (j : ℕ). (serving s j).ticket) (sym w.here) ∙ served_before o e))

      stays_in : (o : Order) → o ∈ s.orders → moved ticked o ≡ o → o ∈ (pass_to ticked s).orders
      stays_in o m e = Memᴰ.cast (sym e) (pass_in_lem m (omega (arith, ap (λ (x : Order). x.station) e, (valid.fit o m).high)))

      -- the order in service at k goes on, or leaves
      pub moved_busy : (k : ℕ) (w : Busy s k) → Over k → moved ticked w.order ≡ move_to (k + 1) w.order
      moved_busy k w z = rw (← w.here) (moved_on w.order (ap (λ (j : ℕ). (at idle ticked j).ticket) w.here ∙ ticks.tickets k ∙ w.served) (ap (λ (j : ℕ). (at idle ticked j).left) w.here ∙ z))

      busy_stays : (k : ℕ) (w : Busy s k) → 1 ≤ (at idle ticked k).left → moved ticked w.order ≡ w.order
      busy_stays k w h = moved_stays w.order (λ e z. omega (arith, ap (λ (j : ℕ). (at idle ticked j).left) w.here, z))

      at_pass : (k : ℕ) → AtPass ticked s k
      unfolding move_to
      at_pass k = go (valid.service k) (eqb_cases (at idle ticked k).left 0)
        where
          gone : (w : Busy s k) → Over k → k ≡ s.n → (o : Order) → o ∈ (pass_to ticked s).orders → o.ticket ≡ w.order.ticket → ⊥
          gone w z last o m e =
              let f = pass_from m in
              let is : f.0 ≡ w.order = unique s.orders valid.rising f.1 w.live (from_ticket m ∙ e) in
              let far : o.station ≡ k + 1 = ap (λ (x : Order). x.station) (sym f.2 ∙ ap (moved ticked) is ∙ moved_busy k w z) in
              omega (arith, f.3, far)

          go : (serving s k ≡ idle) ⊎ Busy s k → ((eqb (at idle ticked k).left 0 ≡ true) × Over k) ⊎ ((eqb (at idle ticked k).left 0 ≡ false) × (Over k → ⊥)) → AtPass ticked s k
          go (inl e) z = rests e (serving_over k (omega (arith, ticks.less k, same_left e)))
          go (inr w) (inl z) =
              ends w z.1 (serving_over k z.1)
              (λ h. Memᴰ.cast (sym (moved_busy k w z.1)) (pass_in_lem w.live (omega (arith, ap (λ (x : Order). x.station) (moved_busy k w z.1)))))
              (gone w z.1)
          go (inr w) (inr z) =
              let h : 1 ≤ (at idle ticked k).left = omega (arith, z.1) in
              goes_on w h (serving_on k h) (stays_in w.order w.live (busy_stays k w h))

      pub passes : Passes ticked s
      passes = record { stations = at_pass; waiting = λ k o w. stays_in o w.live (waiting_stays k o w) }

      pub valid_pass : Valid (pass_to ticked s)
      unfolding pass_to leave vacate
      valid_pass =
          record {
            entries = omega (arith, valid.entries, ticks.count, length-map ticked vacate);
            service = λ k. go k (at_pass k);
            rising = rising_only (λ (o : Order). o.ticket) (λ (x : Order). leb x.station s.n) (map (moved ticked) s.orders) (rising_map (λ (o : Order). o.ticket) (moved ticked) moved_ticket s.orders valid.rising);
            below = λ o m. let w = pass_from m in below o w.0 (from_ticket m) (valid.below w.0 w.1);
            fit = λ o m. let w = pass_from m in fit_moved o w.0 w.2 w.3 (valid.fit w.0 w.1);
          }
        where
          below : (o p : Order) → p.ticket ≡ o.ticket → (s.next ≡ 0) ⊎ (p.ticket < s.next) → (s.next ≡ 0) ⊎ (o.ticket < s.next)
          below o p e (inl z) = inl z
          below o p e (inr h) = inr (omega arith)

          fit_moved : (o p : Order) → moved ticked p ≡ o → o.station ≤ s.n → Fit s.n p → Fit s.n o
          fit_moved o p e high f =
              record {
                named = omega (arith, moved_ticket p, ap (λ (x : Order). x.ticket) e, f.named);
                low = omega (arith, station_kept p, ap (λ (x : Order). x.station) e, f.low);
                high = high;
                costs = λ k a b. omega (arith, ap (λ (c : List ℕ). at 0 c k) (sym (moved_costs p) ∙ ap (λ (x : Order). x.costs) e), f.costs k a b);
              }

          go : (k : ℕ) → AtPass ticked s k → (serving (pass_to ticked s) k ≡ idle) ⊎ Busy (pass_to ticked s) k
          go k (rests e q) = inl q
          go k (ends w z q onward gone) = inl q
          go k (goes_on w h q m) =
              inr (record {
                order = w.order;
                live = m;
                here = w.here;
                served = same_ticket q ∙ ticks.tickets k ∙ w.served;
                some_left = omega (arith, same_left q, h);
                at_most = omega (arith, same_left q, ticks.less k, w.at_most);
              })

pub passes_as_asked : PassesAsAsked
passes_as_asked s valid ticked ticks = passes ticked s valid ticks
