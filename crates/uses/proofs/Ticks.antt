-- A use of who goes before whom, and of what each tick does, of images: who starts, who goes on, who leaves and who is out, and the reply. Four orders wait at station 1; the image is taken
-- before the first advance, before the second and before the third.
use mathlib.Core.Path.{◌≡◌, refl, sym, ap, subst, ◌∙◌}
use mathlib.Core.Logic.{◌≢◌, inl, inr}
use mathlib.Core.Bool.{true, false, true≢false}
use mathlib.Core.List.Memᴰ
use mathlib.Core.List.{List, [], ◌∷◌, map}
use Prim.Native.Nat.{ℕ, zero, suc, ◌≤◌}
use native.Mathlib.Omega.{arith}
use lib.ListN.{get_or, replicate}
use borrow.Author.Tests.{leb-true, eqb-false}
use Rattle.model.specs.declared.Order.{Order}
use Rattle.model.specs.declared.Service.{Service}
use Rattle.model.specs.Lists.{at}
use Rattle.model.specs.State.{State, idle}
use Rattle.model.specs.Tick.{View, precedes, one_less, view, starts, advance, move_to}
use Rattle.model.specs.Image.{decode}
use Rattle.model.specs.Runs.{started, outcome, after_call, after_all, AllAllowed}
use Rattle.model.specs.Table.{read_row}
use Rattle.model.specs.Cases.{order}
use Rattle.schedule.specs.Valid.{◌∈◌, Waits}
use Rattle.schedule.specs.Starts.{AtStart, Started}
use Rattle.schedule.specs.Pass.{pass_to, AtPass}
use Rattle.image_laws.specs.InRange.{byte_limit, Below}
use Rattle.claims.specs.Images.{TickAsAsked}
use Rattle.claims.proofs.Claims.{claims}
use Rattle.uses.specs.DefiniteLists.{some_image, some_reply, opened, waiting_calls, waiting}
use Rattle.uses.proofs.Words.{Figure, of_four, all_bytes}

-- The state before the first advance, before the second and before the third, in figures: four orders, which wait at station 1; the second in service there with
-- one tick to go; the second at station 2.
abbrev waits : ℕ → ℕ → ℕ → ℕ → ℕ → Order
waits ticket due rank cost station =
    record { ticket = ticket; accepted = 0; due = due; sum = 6; station = station; ranks = rank ∷ rank ∷ replicate 6 0; costs = cost ∷ 1 ∷ replicate 6 0; maxima = 2 ∷ 1 ∷ replicate 6 0 }

abbrev state_at : ℕ → Service → ℕ → State
state_at clock entry station =
    record { n = 2; clock = clock; next = 5; services = entry ∷ replicate 7 idle; orders = waits 1 70 0 2 1 ∷ waits 2 60 0 2 station ∷ waits 3 60 0 1 1 ∷ waits 4 50 1 1 1 ∷ [] }

abbrev before : ℕ → State
before zero = state_at 0 idle 1
before (suc zero) = state_at 1 (record { ticket = 2; left = 1 }) 1
before (suc (suc count)) = state_at 2 idle 2

abbrev order_at : ℕ → ℕ → Order
order_at count i = get_or (before count).orders i (waits 0 0 0 0 0)

-- The entries that the starts leave, with one tick less each, and the state after.
abbrev ticked : ℕ → List Service
ticked count = map one_less (starts (before count)).services

abbrev after : ℕ → State
after count = pass_to (ticked count) (starts (before count))

abbrev TakenOf : ℕ → State → Type 0
TakenOf count s = TickAsAsked (waiting count).image some_reply s

abbrev Taken : ℕ → Type 0
Taken count = TakenOf count (before count)

-- ---- who goes before whom at station 1: nobody before himself; the second before the first, by the due tick, and the first before the fourth, by the rank, so
-- the second before the fourth; of the second and the third one before the other, the second by its ticket. At station 8, where no order has a rank, the fourth
-- goes before the second.
abbrev view_at : ℕ → View
view_at i = view (order_at 0 i)

in_order_lem : (precedes 1 (view_at 1) (view_at 1) ≡ false) × (precedes 1 (view_at 1) (view_at 3) ≡ true) × (precedes 1 (view_at 1) (view_at 2) ≡ true) × (precedes 8 (view_at 3) (view_at 1) ≡ true)
unfolding read_row
in_order_lem =
    let one = claims.goes_before 1 in
    let eight = claims.goes_before 8 in
    (one.irreflexive (view_at 1), one.transitive (view_at 1) (view_at 0) (view_at 3) refl refl, elim (one.total (view_at 1) (view_at 2) (eqb-false 2 3 refl)) [ inl t ↦ t | inr t ↦ absurd (true≢false (sym t)) ], elim (eight.total (view_at 1) (view_at 3) (eqb-false 2 4 refl)) [ inl t ↦ absurd (true≢false (sym t)) | inr t ↦ t ])

-- ---- before the first advance: station 1 starts the second order, which goes on, and station 2 rests
second_waits : Waits (before 0) 1 (order_at 0 1)
unfolding read_row pass_to
second_waits = record { live = Memᴰ.tail (Memᴰ.head refl); here = refl; unserved = eqb-false 0 2 refl }

second_starts : Taken 0 → (o : Order) × (o ≡ order_at 0 1) × Figure 2 × Figure 2
unfolding read_row pass_to
second_starts t = go (t.each_starts 1)
  where
    which : (o : Order) → o ∈ (before 0).orders → Started (before 0) 1 o → o ≡ order_at 0 1
    which =
        of_four (λ (o : Order). Started (before 0) 1 o → o ≡ order_at 0 1) (order_at 0 0) (order_at 0 1) (order_at 0 2) (order_at 0 3)
        (λ b. absurd (let w : 70 ≤ 60 = b.earliest_due (order_at 0 1) second_waits refl in let z : ⊥ = omega (arith, w) in z))
        (λ b. refl)
        (λ b. absurd (let w : 3 ≤ 2 = b.smallest_ticket (order_at 0 1) second_waits refl refl in let z : ⊥ = omega (arith, w) in z))
        (λ b. absurd (let w : 1 ≤ 0 = b.smallest_rank (order_at 0 1) second_waits in let z : ⊥ = omega (arith, w) in z))

    go : AtStart (before 0) 1 → (o : Order) × (o ≡ order_at 0 1) × Figure 2 × Figure 2
    go (AtStart.rests free nobody stays) = absurd (nobody (order_at 0 1) second_waits)
    go (AtStart.goes_on busy same) = absurd (let w : 1 ≤ 0 = busy.some_left in let z : ⊥ = omega (arith, w) in z)
    go (AtStart.begins free o b) =
        let is = which o b.waits.live b in
        let entry = b.entry ∙ ap (λ (x : Order). record { ticket = x.ticket; left = at 0 x.costs 1 }) is in
        (o, is, ap (λ (e : Service). e.ticket) entry, ap (λ (e : Service). e.left) entry)

-- What the order that starts was, by its own facts.
second_waited : (w : Waits (before 0) 1 (order_at 0 1)) → Figure 1 × (◌≢◌ {A = ℕ} 0 2)
unfolding read_row pass_to
second_waited w = (w.here, w.unserved)

two_rests : Taken 0 → Figure 0 × Figure 0
unfolding read_row pass_to
two_rests t = go (t.each_starts 2)
  where
    nobody_there : (o : Order) → o ∈ (before 0).orders → o.station ≡ 2 → ⊥
    nobody_there = of_four (λ (o : Order). o.station ≡ 2 → ⊥) (order_at 0 0) (order_at 0 1) (order_at 0 2) (order_at 0 3) (eqb-false 1 2 refl) (eqb-false 1 2 refl) (eqb-false 1 2 refl) (eqb-false 1 2 refl)

    go : AtStart (before 0) 2 → Figure 0 × Figure 0
    go (AtStart.rests free nobody stays) = (ap (λ (e : Service). e.ticket) free, ap (λ (e : Service). e.ticket) stays)
    go (AtStart.goes_on busy same) = absurd (let w : 1 ≤ 0 = busy.some_left in let z : ⊥ = omega (arith, w) in z)
    go (AtStart.begins free o b) = absurd (nobody_there o b.waits.live b.waits.here)

-- 2 and 3: one of its two ticks is to go, and it stays; station 2 stays idle; the first order, which waits, stays where it is.
second_goes_on : Taken 0 → (1 ≤ 1) × Figure 2 × Figure 1 × ((o : Order) × (o.ticket ≡ 2) × (o ∈ (after 0).orders))
unfolding read_row pass_to
second_goes_on t = go (t.each_passes.stations 1)
  where
    go : AtPass (ticked 0) (starts (before 0)) 1 → (1 ≤ 1) × Figure 2 × Figure 1 × ((o : Order) × (o.ticket ≡ 2) × (o ∈ (after 0).orders))
    go (AtPass.rests free stays) = absurd (let w : ◌≡◌ {A = ℕ} 2 0 = ap (λ (e : Service). e.ticket) free in let z : ⊥ = omega (arith, w) in z)
    go (AtPass.goes_on w some same there) = (some, ap (λ (e : Service). e.ticket) same, ap (λ (e : Service). e.left) same, (w.order, sym w.served, there))
    go (AtPass.ends w none free onward gone) = absurd (let w : ◌≡◌ {A = ℕ} 1 0 = none in let z : ⊥ = omega (arith, w) in z)

two_stays_idle : Taken 0 → Figure 0 × Figure 0
unfolding read_row pass_to
two_stays_idle t = go (t.each_passes.stations 2)
  where
    go : AtPass (ticked 0) (starts (before 0)) 2 → Figure 0 × Figure 0
    go (AtPass.rests free stays) = (ap (λ (e : Service). e.ticket) free, ap (λ (e : Service). e.ticket) stays)
    go (AtPass.goes_on w some same there) = absurd (let w : 1 ≤ 0 = w.some_left in let z : ⊥ = omega (arith, w) in z)
    go (AtPass.ends w none free onward gone) = absurd (let w : 1 ≤ 0 = w.some_left in let z : ⊥ = omega (arith, w) in z)

first_stays : Taken 0 → order_at 0 0 ∈ (after 0).orders
unfolding read_row pass_to
first_stays t = t.each_passes.waiting 1 (order_at 0 0) (record { live = Memᴰ.head refl; here = refl; unserved = eqb-false 2 1 refl })

-- The state after is that of the image after, with the clock at 1. Nobody is out.
after_first : Taken 0 → Figure 1 × Figure 1 × Figure 1 × Figure 0
unfolding read_row opened waiting_calls waiting order started after_call outcome after_all pass_to
after_first t = (ap (λ (s : State). s.clock) t.is_advance, ap (λ (s : State). s.clock) t.says_after, t.clock_after, t.ticket_given)

-- ---- before the second advance: the order in service goes on, has nothing to go then, and waits at station 2
second_served : Taken 1 → Figure 2 × Figure 1 × (1 ≤ 1) × ((o : Order) × (o ∈ (before 1).orders) × (o.ticket ≡ 2) × (o.station ≡ 1) × (1 ≤ at 0 o.costs 1))
unfolding read_row pass_to
second_served t = go (t.each_starts 1)
  where
    go : AtStart (before 1) 1 → Figure 2 × Figure 1 × (1 ≤ 1) × ((o : Order) × (o ∈ (before 1).orders) × (o.ticket ≡ 2) × (o.station ≡ 1) × (1 ≤ at 0 o.costs 1))
    go (AtStart.rests free nobody stays) = absurd (let w : ◌≡◌ {A = ℕ} 2 0 = ap (λ (e : Service). e.ticket) free in let z : ⊥ = omega (arith, w) in z)
    go (AtStart.begins free o b) = absurd (let w : ◌≡◌ {A = ℕ} 2 0 = ap (λ (e : Service). e.ticket) free in let z : ⊥ = omega (arith, w) in z)
    go (AtStart.goes_on busy same) = (ap (λ (e : Service). e.ticket) same, ap (λ (e : Service). e.left) same, busy.some_left, (busy.order, busy.live, sym busy.served, busy.here, busy.at_most))

second_moves : Taken 1 → Figure 0 × Figure 0 × ((o : Order) × (o.ticket ≡ 2) × (move_to 2 o ∈ (after 1).orders))
unfolding read_row pass_to
second_moves t = go (t.each_passes.stations 1)
  where
    go : AtPass (ticked 1) (starts (before 1)) 1 → Figure 0 × Figure 0 × ((o : Order) × (o.ticket ≡ 2) × (move_to 2 o ∈ (after 1).orders))
    go (AtPass.rests free stays) = absurd (let w : ◌≡◌ {A = ℕ} 2 0 = ap (λ (e : Service). e.ticket) free in let z : ⊥ = omega (arith, w) in z)
    go (AtPass.goes_on w some same there) = absurd (let w : 1 ≤ 0 = some in let z : ⊥ = omega (arith, w) in z)
    go (AtPass.ends w none free onward gone) = (none, ap (λ (e : Service). e.ticket) free, (w.order, sym w.served, onward (omega arith)))

-- ---- before the third advance: at station 2 the second order ends, and it is out; the first is live still
second_gone : Taken 2 → Figure 0 × Figure 0 × ((o : Order) → o ∈ (after 2).orders → o.ticket ≡ 2 → ⊥)
unfolding read_row pass_to
second_gone t = go (t.each_passes.stations 2)
  where
    go : AtPass (ticked 2) (starts (before 2)) 2 → Figure 0 × Figure 0 × ((o : Order) → o ∈ (after 2).orders → o.ticket ≡ 2 → ⊥)
    go (AtPass.rests free stays) = absurd (let w : ◌≡◌ {A = ℕ} 2 0 = ap (λ (e : Service). e.ticket) free in let z : ⊥ = omega (arith, w) in z)
    go (AtPass.goes_on w some same there) = absurd (let w : 1 ≤ 0 = some in let z : ⊥ = omega (arith, w) in z)
    go (AtPass.ends w none free onward gone) = (none, ap (λ (e : Service). e.ticket) free, λ o m is. gone refl o m (is ∙ w.served))

second_out : Taken 2 → ((o : Order) × (o ∈ (before 2).orders) × (o.ticket ≡ 2)) × Figure 2 × (◌≢◌ {A = ℕ} 1 2) × ((o : Order) × (o ∈ (advance (before 2)).orders) × (o.ticket ≡ 1)) × Figure 2
unfolding read_row opened waiting_calls waiting order started after_call outcome after_all pass_to
second_out t =
    let out = t.ticket_out in
    let was = out.was_live (leb-true _ _ (refl {a = true})) in
    let still = out.others_live (order_at 2 0) (Memᴰ.head refl) (eqb-false 1 2 refl) in
    ((was.order, was.live, was.named), out.at_last (order_at 2 1) (Memᴰ.tail (Memᴰ.head refl)) refl, out.is_out (leb-true _ _ (refl {a = true})) (get_or (advance (before 2)).orders 0 (order_at 2 0)) (Memᴰ.head refl), (still.order, still.live, still.named), t.ticket_given)

-- ---- all of it of every image of bytes, and after every list, at 2 stations
waiting_bytes : (Below byte_limit (waiting 0).image) × (Below byte_limit (waiting 1).image) × (Below byte_limit (waiting 2).image)
unfolding read_row opened waiting_calls waiting order started after_call outcome after_all pass_to
waiting_bytes =
    (all_bytes (waiting 0).image (refl {a = true}), all_bytes (waiting 1).image (refl {a = true}), all_bytes (waiting 2).image (refl {a = true}))

-- These are the states that the images say.
says : (decode (waiting 0).image ≡ before 0) × (decode (waiting 1).image ≡ before 1) × (decode (waiting 2).image ≡ before 2)
unfolding read_row opened waiting_calls waiting order started after_call outcome after_all
says = (refl, refl, refl)

of_images : Taken 0 × Taken 1 × Taken 2
unfolding read_row opened waiting_calls waiting order started after_call outcome after_all
of_images =
    (subst (TakenOf 0) says.0 (claims.ticks (waiting 0).image waiting_bytes.0 some_reply refl), subst (TakenOf 1) says.1 (claims.ticks (waiting 1).image waiting_bytes.1 some_reply refl), subst (TakenOf 2) says.2 (claims.ticks (waiting 2).image waiting_bytes.2 some_reply refl))

waiting_allowed : (AllAllowed (opened 2) (waiting_calls 0)) × (AllAllowed (opened 2) (waiting_calls 1)) × (AllAllowed (opened 2) (waiting_calls 2))
unfolding waiting_calls
waiting_allowed = ((tt, (tt, (tt, (tt, tt)))), (tt, (tt, (tt, (tt, (tt, tt))))), (tt, (tt, (tt, (tt, (tt, (tt, tt)))))))

after_lists : Taken 0 × Taken 1 × Taken 2
unfolding read_row opened waiting_calls waiting order started after_call outcome after_all
after_lists =
    let of = claims.ticks_over_runs 2 (omega arith) (omega arith) some_image refl some_reply refl in
    (subst (TakenOf 0) says.0 (of (waiting_calls 0) waiting_allowed.0 some_reply refl), subst (TakenOf 1) says.1 (of (waiting_calls 1) waiting_allowed.1 some_reply refl), subst (TakenOf 2) says.2 (of (waiting_calls 2) waiting_allowed.2 some_reply refl))
