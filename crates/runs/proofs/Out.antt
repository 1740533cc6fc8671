-- What an advance does to a history: the history stands for the advanced state, the ticket out of the state is that of the entry whose out tick is the new
-- clock, and at most one live order is live no more.
use mathlib.Core.Path.{◌≡◌, refl, sym, ap, subst, ◌∙◌}
use mathlib.Core.Logic.{◌⊎◌, inl, inr}
use mathlib.Core.Bool.{Bool, true, false, cond, true≢false}
use mathlib.Core.List.Memᴰ
use mathlib.Core.List.{List, [], ◌∷◌, map}
use mathlib.Core.Option.{Option, none, some}
use Prim.Native.Nat.{ℕ, zero, suc, ◌+◌, ◌≤◌}
use native.Mathlib.Omega.{arith}
use lib.ListN.{length, length-map}
use lib.Dec.{leb}
use borrow.Author.Tests.{eq-eqb, eqb-true}
use Rattle.model.specs.declared.Order.{Order}
use Rattle.model.specs.declared.Service.{Service}
use Rattle.model.specs.Lists.{only}
use Rattle.model.specs.State.{State}
use Rattle.model.specs.Tick.{one_less, ticket_out, starts, tick, leave, advance, advance_out}
use Rattle.model.specs.History.{Entry, History, live, live_orders, entry_due, starts_in, tick_in, leaves, leave_in, advance_in, is_at, out_at}
use Rattle.model.specs.StateOf.{record_of, state_of}
use Rattle.schedule.specs.Valid.{◌∈◌, RisingBy, Valid}
use Rattle.schedule.specs.Pass.{pass_to, moved}
use Rattle.schedule.specs.Out.{Has}
use Rattle.schedule.proofs.Laws.{test, EqCase, eqb_cases, only_yes, only_no, only_in, rising_map, unique}
use Rattle.schedule.proofs.Pass.{ticked_plain, plain_pass, moved_ticket}
use Rattle.schedule.proofs.Out.{ticket_out_as_asked}
use Rattle.delay.specs.Events.{pass_in, MayPass}
use Rattle.delay.proofs.Book.{state_starts, state_pass, leaves_ticket, leaves_due, ticking}
use Rattle.delay.proofs.DueTimes.{Kept, Out, now, before, kept_starts, kept_pass, may_pass, from_before, outs_after, last_ends, live_record, none_live}

-- ---- at most one is left out of a list whose figures rise, where those left out have one figure in common
module _ {A : Type 0} (key : A → ℕ) (p : A → Bool) where
  all_stay : (l : List A) → ((a : A) → a ∈ l → p a ≡ true) → only p l ≡ l
  all_stay [] passes = unfold only in refl
  all_stay (a ∷ l) passes = only_yes p a l (passes a (Memᴰ.head refl)) ∙ ap (λ (r : List A). a ∷ r) (all_stay l (λ b m. passes b (Memᴰ.tail m)))

  one_left_out : (v : ℕ) (l : List A) → RisingBy key l → ((a : A) → a ∈ l → p a ≡ false → key a ≡ v) → length l ≤ length (only p l) + 1
  one_left_out v [] rising named = omega arith
  one_left_out v (a ∷ l) rising named = go (test (p a)) (one_left_out v l rising.1 (λ b m. named b (Memᴰ.tail m)))
    where
      stays : p a ≡ false → (b : A) → b ∈ l → (p b ≡ true) ⊎ (p b ≡ false) → p b ≡ true
      stays t b m (inl q) = q
      stays t b m (inr q) = absurd (let w : ⊥ = omega (arith, rising.0 b m, named a (Memᴰ.head refl) t, named b (Memᴰ.tail m) q) in w)

      go : (p a ≡ true) ⊎ (p a ≡ false) → length l ≤ length (only p l) + 1 → length (a ∷ l) ≤ length (only p (a ∷ l)) + 1
      go (inl t) ih = rw (only_yes p a l t) (omega (arith, ih))
      go (inr t) ih = rw (only_no p a l t, all_stay l (λ b m. stays t b m (test (p b)))) (omega arith)

-- An advance leaves at least all live orders but one.
module _ (s : State) (valid : Valid s) where
  abbrev entries : List Service
  entries = map one_less (starts s).services

  within : Order → Bool
  within o = leb o.station s.n

  abbrev all_moved : List Order
  all_moved = map (moved entries) s.orders

  left_are : (advance s).orders ≡ only within all_moved
  unfolding within advance starts tick leave
  left_are = refl

  rising : RisingBy (λ (o : Order). o.ticket) all_moved
  rising = rising_map (λ (o : Order). o.ticket) (moved entries) (moved_ticket entries) s.orders valid.rising

  -- Every order but the one that is out is live after it, under its ticket.
  out_ticket : (a : Order) → a ∈ all_moved → within a ≡ false → a.ticket ≡ advance_out s
  out_ticket a m gone = go (eqb_cases a.ticket (advance_out s))
    where
      w : (o : Order) × (o ∈ s.orders) × (moved entries o ≡ a)
      w = Memᴰ.of_map (moved entries) s.orders m

      name : w.0.ticket ≡ a.ticket
      name = sym (moved_ticket entries w.0) ∙ ap (λ (o : Order). o.ticket) w.2

      still : Has (advance s) w.0.ticket → ⊥
      still there =
          let q = only_in within all_moved (subst (λ (l : List Order). there.order ∈ l) left_are there.live) in
          let same : there.order ≡ a = unique all_moved rising q.0 m (there.named ∙ name) in
          true≢false (sym q.1 ∙ ap within same ∙ gone)

      go : EqCase a.ticket (advance_out s) → a.ticket ≡ advance_out s
      go (inl e) = e.1
      go (inr e) = absurd (still ((ticket_out_as_asked s valid).others_live w.0 w.1 (λ q. e.1 (sym name ∙ q))))

  pub one_out : length s.orders ≤ length (advance s).orders + 1
  one_out =
      omega (
        arith,
        ap (λ (l : List Order). length l) left_are,
        length-map s.orders (moved entries),
        one_left_out (λ (o : Order). o.ticket) within (advance_out s) all_moved rising out_ticket,
      )

-- ---- an advance of a history
pub advanced_clock : (h : History) → (advance_in h).clock ≡ h.clock + 1
unfolding advance_in leave_in tick_in starts_in
advanced_clock h = refl

pub advanced_count : (h : History) → length (advance_in h).orders ≡ length h.orders
unfolding advance_in leave_in tick_in starts_in
advanced_count h = length-map h.orders (leaves (tick_in (starts_in h)))

module _ (h : History) (kept : Kept h) where
  abbrev ticked : List Service
  ticked = map one_less (starts_in h).services

  may : MayPass (starts_in h) ticked
  may = may_pass h kept ticked (ticked_plain (starts_in h).services)

  advance_passes : advance_in h ≡ pass_in ticked (starts_in h)
  unfolding pass_in advance_in tick_in
  advance_passes = refl

  pub kept_advance : Kept (advance_in h)
  kept_advance = subst Kept (sym advance_passes) (kept_pass ticked (starts_in h) (kept_starts h kept) may)

  pub same_services : (starts_in h).services ≡ (starts (state_of h)).services
  same_services = unfold state_of in ap (λ (s : State). s.services) (state_starts h)

  pub state_advance : state_of (advance_in h) ≡ advance (state_of h)
  unfolding advance
  state_advance =
      ap state_of advance_passes
      ∙ state_pass ticked (starts_in h)
      ∙ ap (pass_to ticked) (state_starts h)
      ∙ ap (λ (l : List Service). pass_to (map one_less l) (starts (state_of h))) same_services
      ∙ sym (plain_pass (starts (state_of h)))

  -- The ticket out of the state, by the history's stations.
  out_is : advance_out (state_of h) ≡ ticket_out h.n ticked
  unfolding advance_out tick state_of
  out_is = ap (λ (l : List Service). ticket_out h.n (map one_less l)) (sym same_services)

  -- An entry before the advance, and as the advance leaves it.
  abbrev after : Entry → Entry
  after e = leaves (ticking ticked (starts_in h)) e

  came_from : (x : Entry) → x ∈ (advance_in h).orders → (e : Entry) × (e ∈ h.orders) × (after e ≡ x)
  unfolding starts_in
  came_from x m = from_before ticked (starts_in h) (kept_starts h kept) may (subst (λ (g : History). x ∈ g.orders) advance_passes m)

  came : (e : Entry) → e ∈ h.orders → after e ∈ (advance_in h).orders
  unfolding advance_in leave_in tick_in starts_in
  came e m = Memᴰ.map after m

  -- An order stays in the history, under its ticket and with its due tick.
  pub stays : (e : Entry) → e ∈ h.orders → (f : Entry) × (f ∈ (advance_in h).orders) × (f.ticket ≡ e.ticket) × (entry_due f ≡ entry_due e)
  stays e m = (after e, came e m, leaves_ticket (ticking ticked (starts_in h)) e, leaves_due (ticking ticked (starts_in h)) e)

  -- What an entry's out tick tells: it is brought out now, from the last station, or was out before.
  told : (e : Entry) (t : ℕ) → (after e).out ≡ some t → Out ticked (starts_in h) (kept_starts h kept) may e t
  told e t q = outs_after ticked (starts_in h) (kept_starts h kept) may e t q

  -- An entry whose out tick is the new clock has the ticket out.
  out_named : (x : Entry) → x ∈ (advance_in h).orders → x.out ≡ some (h.clock + 1) → x.ticket ≡ advance_out (state_of h)
  unfolding starts_in ticket_out
  out_named x m q = go (told e (h.clock + 1) (ap (λ (y : Entry). y.out) w.2 ∙ q))
    where
      w : (e : Entry) × (e ∈ h.orders) × (after e ≡ x)
      w = came_from x m

      e : Entry
      e = w.0

      go : Out ticked (starts_in h) (kept_starts h kept) may e (h.clock + 1) → x.ticket ≡ advance_out (state_of h)
      go (now l u far) =
          let ends = last_ends ticked (starts_in h) (kept_starts h kept) may e w.1 l far in
          ap (λ (y : Entry). y.ticket) (sym w.2) ∙ leaves_ticket (ticking ticked (starts_in h)) e ∙ sym ends.0 ∙ sym (out_is ∙ rw ends.1)
      go (before l u) = absurd (omega (arith, (kept.outs e w.1 (h.clock + 1) u).2))

  -- And where there is a ticket out, there is such an entry.
  out_there : 1 ≤ advance_out (state_of h) → (x : Entry) × (x ∈ (advance_in h).orders) × (x.out ≡ some (h.clock + 1))
  out_there Some-out = go (after e).out refl
    where
      was : Has (state_of h) (advance_out (state_of h))
      was = (ticket_out_as_asked (state_of h) kept.promise.valid).was_live Some-out

      w : (e : Entry) × (e ∈ live_orders h) × (record_of h e ≡ was.order)
      w = unfold state_of in Memᴰ.of_map (record_of h) (live_orders h) was.live

      e : Entry
      e = w.0

      here : (e ∈ h.orders) × (live e ≡ true)
      here = unfold live_orders in only_in live h.orders w.1

      name : (record_of (advance_in h) (after e)).ticket ≡ advance_out (state_of h)
      name = unfold record_of in leaves_ticket (ticking ticked (starts_in h)) e ∙ ap (λ (o : Order). o.ticket) w.2 ∙ was.named

      -- It is not live: no live order has the ticket out.
      go : (x : Option ℕ) → (after e).out ≡ x → (x : Entry) × (x ∈ (advance_in h).orders) × (x.out ≡ some (h.clock + 1))
      go none q =
          let m : record_of (advance_in h) (after e) ∈ (advance (state_of h)).orders = subst (λ (s : State). record_of (advance_in h) (after e) ∈ s.orders) state_advance (live_record (advance_in h) (after e) (came e here.0) (none_live (after e) q)) in
          absurd ((ticket_out_as_asked (state_of h) kept.promise.valid).is_out Some-out (record_of (advance_in h) (after e)) m name)
      go (some t) q = (after e, came e here.0, q ∙ ap some (new (told e t q)))
        where
          new : Out ticked (starts_in h) (kept_starts h kept) may e t → t ≡ h.clock + 1
          new (now l u far) = unfold starts_in in u
          new (before l u) = absurd (true≢false (sym here.1 ∙ l))

-- ---- the ticket of the entry whose out tick is t
at_tick : (t : ℕ) (x : Option ℕ) → is_at t x ≡ true → x ≡ some t
unfolding is_at
at_tick t none e = absurd (true≢false (sym e))
at_tick t (some u) e = ap some (eqb-true u t e)

tick_at : (t : ℕ) (x : Option ℕ) → x ≡ some t → is_at t x ≡ true
unfolding is_at
tick_at t x e = rw e (eq-eqb t t refl)

abbrev There : ℕ → List Entry → Type 0
There t l = (x : Entry) × (x ∈ l) × (x.out ≡ some t)

out_at_lem : (t v : ℕ) (l : List Entry) → ((x : Entry) → x ∈ l → x.out ≡ some t → x.ticket ≡ v) → (v ≡ 0) ⊎ There t l → out_at t l ≡ v
unfolding out_at
out_at_lem t v [] named (inl z) = sym z
out_at_lem t v [] named (inr w) = absurd (Memᴰ.not-nil w.1)
out_at_lem t v (e ∷ l) named there = go (test (is_at t e.out)) (out_at_lem t v l (λ x m. named x (Memᴰ.tail m)))
  where
    later : is_at t e.out ≡ false → (v ≡ 0) ⊎ There t (e ∷ l) → (v ≡ 0) ⊎ There t l
    later other (inl z) = inl z
    later other (inr w) =
        elim (Memᴰ.cases_cons w.1) [
          | inl q ↦ absurd (true≢false (sym (tick_at t e.out (ap (λ (x : Entry). x.out) (sym q) ∙ w.2)) ∙ other))
          | inr m ↦ inr (w.0, m, w.2)
        ]

    go : (is_at t e.out ≡ true) ⊎ (is_at t e.out ≡ false) → ((v ≡ 0) ⊎ There t l → out_at t l ≡ v) → cond (is_at t e.out) e.ticket (out_at t l) ≡ v
    go (inl q) rest = rw q (named e (Memᴰ.head refl) (at_tick t e.out q))
    go (inr q) rest = rw q (rest (later q there))

-- "the ticket out in the book, or 0"
pub out_in_history : (h : History) → Kept h → out_at (h.clock + 1) (advance_in h).orders ≡ advance_out (state_of h)
out_in_history h kept = out_at_lem (h.clock + 1) (advance_out (state_of h)) (advance_in h).orders (out_named h kept) (some_or_none (advance_out (state_of h)) (out_there h kept))
  where
    some_or_none : (v : ℕ) → (1 ≤ v → There (h.clock + 1) (advance_in h).orders) → (v ≡ 0) ⊎ There (h.clock + 1) (advance_in h).orders
    some_or_none zero there = inl refl
    some_or_none (suc v) there = inr (there (omega arith))
