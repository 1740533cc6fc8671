-- What each clause of `sound` says of a state: each test is put together from tests whose facts are known.
use mathlib.Core.Path.{◌≡◌, refl, sym, ap}
use mathlib.Core.Logic.{◌⊎◌, inl, inr}
use mathlib.Core.Bool.{Bool, ◌||◌}
use mathlib.Core.List.Memᴰ
use mathlib.Core.List.{List, [], ◌∷◌, map}
use Prim.Native.Nat.{ℕ, ◌+◌, ◌≤◌, ◌<◌}
use native.Mathlib.Omega.{arith}
use lib.ListN.{length, drop}
use lib.Dec.{leb, ltb}
use Rattle.model.specs.declared.Order.{Order}
use Rattle.model.specs.declared.Service.{Service}
use Rattle.model.specs.Limits.{max_cost, max_due_in, last_tick}
use Rattle.model.specs.Lists.{at, within, is_zero, all, any}
use Rattle.model.specs.State.{State, idle}
use Rattle.model.specs.Soundness.{rising, tickets_in_order, due_in_range, costs_in_range, maxima_in_range, zero_beyond, record_zero_beyond, is_idle, serves, services_in_order}
use Rattle.schedule.specs.Valid.{◌∈◌, serving, cost, rank, Busy, Rising}
use Rattle.schedule.proofs.Laws.{eqb_cases}
use Rattle.image_laws.specs.SoundFacts.{maximum}
use Rattle.image_laws.proofs.Tests.{Says, leb_says, ltb_says, eqb_says, within_says, and_says, or_says, in_words, members_say, all_map, any_says, beyond_says, stations_say, first_say}

abbrev tickets : List Order → List ℕ
tickets l = map (λ (o : Order). o.ticket) l

-- A fact of each live order.
abbrev Each : List Order → (Order → Type 0) → Type 0
Each l P = (o : Order) → o ∈ l → P o

-- "live tickets at least 1, rising, and below the next ticket where that is not 0"
rising_says : (l : List Order) → Says (rising (tickets l)) (Rising l)
unfolding rising
rising_says [] = record { tells = λ e. tt; passes = λ r. refl }
rising_says (a ∷ []) = record { tells = λ e. (λ b m. absurd (Memᴰ.not-nil m), tt); passes = λ r. refl }
rising_says (a ∷ b ∷ l) = in_words (and_says (ltb_says a.ticket b.ticket) (rising_says (b ∷ l))) there (λ r. (r.0 b (Memᴰ.head refl), r.1))
  where
    there : (a.ticket < b.ticket) × Rising (b ∷ l) → Rising (a ∷ b ∷ l)
    there t =
        (λ c m. elim (Memᴰ.cases_cons m) [ inl e ↦ omega (arith, t.0, ap (λ (o : Order). o.ticket) e) | inr q ↦ omega (arith, t.0, t.1.0 c q) ], t.1)

given_say : (test : ℕ → Bool) (P : ℕ → Type 0) → ((t : ℕ) → Says (test t) (P t)) → (l : List Order) → Says (all test (tickets l)) (Each l (λ o. P o.ticket))
given_say test P says l =
    rw (all_map test (λ (o : Order). o.ticket) l) (members_say (λ (o : Order). test o.ticket) l (λ o m. says o.ticket))

below_says : (next : ℕ) (l : List Order) → Says (is_zero next || all (λ t. ltb t next) (tickets l)) (Each l (λ o. (next ≡ 0) ⊎ (o.ticket < next)))
below_says next l = in_words (or_says (eqb_says next 0) (given_say (λ t. ltb t next) (λ t. t < next) (λ t. ltb_says t next) l)) there back
  where
    there : (next ≡ 0) ⊎ Each l (λ o. o.ticket < next) → Each l (λ o. (next ≡ 0) ⊎ (o.ticket < next))
    there (inl z) o m = inl z
    there (inr f) o m = inr (f o m)

    below : (next ≡ 0 → ⊥) → {t : ℕ} → (next ≡ 0) ⊎ (t < next) → t < next
    below some (inl z) = absurd (some z)
    below some (inr h) = h

    back : Each l (λ o. (next ≡ 0) ⊎ (o.ticket < next)) → (next ≡ 0) ⊎ Each l (λ o. o.ticket < next)
    back f = elim (eqb_cases next 0) [ inl z ↦ inl z.1 | inr some ↦ inr (λ o m. below some.1 (f o m)) ]

pub tickets_say : (s : State) → Says (tickets_in_order s) ((Each s.orders (λ o. 1 ≤ o.ticket) × Rising s.orders) × Each s.orders (λ o. (s.next ≡ 0) ⊎ (o.ticket < s.next)))
unfolding tickets_in_order
tickets_say s =
    and_says (and_says (given_say (leb 1) (λ t. 1 ≤ t) (leb_says 1) s.orders) (rising_says s.orders)) (below_says s.next s.orders)

-- "due tick 1 to 60,000 after acceptance and at most 4,000,000,000"
pub due_says : (o : Order) → Says (due_in_range o) (((o.accepted + 1 ≤ o.due) × (o.due ≤ o.accepted + max_due_in)) × (o.due ≤ last_tick))
unfolding due_in_range
due_says o = and_says (within_says (o.accepted + 1) (o.accepted + max_due_in) o.due) (leb_says o.due last_tick)

pub zero_beyond_lem : (n : ℕ) (l : List ℕ) → Says (zero_beyond n l) ((k : ℕ) → n < k → at 0 l k ≡ 0)
unfolding zero_beyond
zero_beyond_lem n l = beyond_says is_zero (λ x. x ≡ 0) (λ x. eqb_says x 0) 0 refl n l

-- "costs in range"
pub costs_say : (n : ℕ) (costs : List ℕ) → n ≤ length costs → Says (costs_in_range n costs) ((k : ℕ) → 1 ≤ k → k ≤ n → (1 ≤ at 0 costs k) × (at 0 costs k ≤ max_cost))
unfolding costs_in_range
costs_say n costs h = first_say (within 1 max_cost) (λ c. (1 ≤ c) × (c ≤ max_cost)) (within_says 1 max_cost) 0 n costs h

module _ (n : ℕ) (o : Order) where
  -- "each maximum at least the own cost and at most 6,000"
  pub maxima_say : n ≤ length o.maxima → Says (maxima_in_range n o) ((k : ℕ) → 1 ≤ k → k ≤ n → (cost o k ≤ maximum o k) × (maximum o k ≤ max_cost))
  unfolding maxima_in_range
  maxima_say h =
      stations_say (λ k m. within (cost o k) max_cost m) (λ k m. (cost o k ≤ m) × (m ≤ max_cost)) (λ k m. within_says (cost o k) max_cost m) 0 n o.maxima h

  -- "fields beyond N zero"
  pub fields_say : Says (record_zero_beyond n o) ((((k : ℕ) → n < k → rank o k ≡ 0) × ((k : ℕ) → n < k → cost o k ≡ 0)) × ((k : ℕ) → n < k → maximum o k ≡ 0))
  unfolding record_zero_beyond
  fields_say = and_says (and_says (zero_beyond_lem n o.ranks) (zero_beyond_lem n o.costs)) (zero_beyond_lem n o.maxima)

idle_says : (e : Service) → Says (is_idle e) (e ≡ idle)
unfolding is_idle
idle_says e =
    in_words (and_says (eqb_says e.ticket 0) (eqb_says e.left 0))
    (λ t i. record { ticket = t.0 i; left = t.1 i })
    (λ q. (ap (λ (v : Service). v.ticket) q, ap (λ (v : Service). v.left) q))

pub idle_beyond_says : (n : ℕ) (l : List Service) → Says (all is_idle (drop n l)) ((k : ℕ) → n < k → at idle l k ≡ idle)
idle_beyond_says n l = beyond_says is_idle (λ e. e ≡ idle) idle_says idle refl n l

-- "each station idle (0, 0) or serving a live order that is at it, with ticks to go from 1 to its cost there"
abbrev Served : State → ℕ → Service → Type 0
Served s k e = (o : Order) × (o ∈ s.orders) × (((o.ticket ≡ e.ticket) × (o.station ≡ k)) × ((1 ≤ e.left) × (e.left ≤ cost o k)))

pub services_say : (s : State) → s.n ≤ length s.services → Says (services_in_order s) ((k : ℕ) → 1 ≤ k → k ≤ s.n → (serving s k ≡ idle) ⊎ Busy s k)
unfolding services_in_order serves
services_say s h =
    in_words (stations_say (λ k e. is_idle e || any (serves k e) s.orders) (λ k e. (e ≡ idle) ⊎ Served s k e) entry_says idle s.n s.services h)
    (λ f k low high. there k (f k low high)) (λ f k low high. back k (f k low high))
  where
    entry_says : (k : ℕ) (e : Service) → Says (is_idle e || any (serves k e) s.orders) ((e ≡ idle) ⊎ Served s k e)
    entry_says k e =
        or_says (idle_says e)
        (any_says (serves k e) (λ o. ((o.ticket ≡ e.ticket) × (o.station ≡ k)) × ((1 ≤ e.left) × (e.left ≤ cost o k)))
        (λ o. and_says (and_says (eqb_says o.ticket e.ticket) (eqb_says o.station k)) (within_says 1 (cost o k) e.left)) s.orders)

    there : (k : ℕ) → (serving s k ≡ idle) ⊎ Served s k (serving s k) → (serving s k ≡ idle) ⊎ Busy s k
    there k (inl e) = inl e
    there k (inr w) = inr (record { order = w.0; live = w.1; here = w.2.0.1; served = sym w.2.0.0; some_left = w.2.1.0; at_most = w.2.1.1 })

    back : (k : ℕ) → (serving s k ≡ idle) ⊎ Busy s k → (serving s k ≡ idle) ⊎ Served s k (serving s k)
    back k (inl e) = inl e
    back k (inr w) = inr (w.order, w.live, ((sym w.served, w.here), (w.some_left, w.at_most)))
