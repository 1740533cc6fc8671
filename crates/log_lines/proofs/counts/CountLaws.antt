-- The stations where an order is, and the ticks counted for them, as loops find them: with one order more, and with one station more.
use mathlib.Core.Path.{◌≡◌, refl, sym, ap, ◌∙◌}
use mathlib.Core.Bool.{Bool, true, false, true≢false, cond, ◌||◌}
use mathlib.Core.List.{List, [], ◌∷◌, ◌++◌}
use Prim.Native.Nat.{ℕ, zero, suc, ◌+◌, ◌-◌, ◌*◌, ◌≤◌, ◌<◌, min}
use native.Mathlib.Nat.{add-zero}
use native.Mathlib.Omega.{arith}
use lib.ListN.{length, get_or, set, take, drop, replicate, get_or-eq_default}
use lib.Seq.{get_or-take, get_or-drop}
use lib.Dec.{leb, eqb}
use borrow.Author.Tests.{eq-eqb, ne_eqb, leb-true, leb-false}
use Rattle.model.specs.declared.Order.{Order}
use Rattle.model.specs.Limits.{max_stations, max_live}
use Rattle.model.specs.Lists.{within, any, upward}
use Rattle.model.specs.Layout.{image_size, records_at, record_size, station_at, record_part}
use Rattle.model.specs.Image.{order_of, orders_of, live_count, decode}
use Rattle.lists.proofs.Fills.{upward_from, upward-more}
use Rattle.lists.proofs.Tests.{either, or-false, any_more}
use Rattle.image_laws.proofs.Tests.{within_says}
use Rattle.log_model.specs.Reading.{one_more, occupied, counted}

-- Ticks counted at one station more. Stations beyond the list of tests keep theirs.
counted_after : (b : Bool) (y : ℕ) (c : List ℕ) (k : ℕ) → y ∷ cond b (set c k (one_more (get_or c k 0))) c ≡ cond b (set (y ∷ c) (suc k) (one_more (get_or (y ∷ c) (suc k) 0))) (y ∷ c)
counted_after true y c k = refl
counted_after false y c k = refl

nothing_counted : (b : Bool) (k x : ℕ) → ◌≡◌ {A = List ℕ} [] (cond b (set [] k x) [])
nothing_counted true k x = refl
nothing_counted false k x = refl

pub counted_none : (busy : List ℕ) → busy ≡ counted [] busy
unfolding counted
counted_none busy = refl

pub counted_next : (here : List Bool) (busy : List ℕ) (k : ℕ) → k < length here → counted (take (suc k) here) busy ≡ cond (get_or here k false) (set (counted (take k here) busy) k (one_more (get_or (counted (take k here) busy) k 0))) (counted (take k here) busy)
unfolding counted
counted_next [] busy k h = absurd (let z : ⊥ = omega arith in z)
counted_next (b ∷ here) [] zero h = nothing_counted b 0 (one_more 0)
counted_next (b ∷ here) [] (suc k) h = nothing_counted (get_or here k false) (suc k) (one_more 0)
counted_next (true ∷ here) (x ∷ busy) zero h = refl
counted_next (false ∷ here) (x ∷ busy) zero h = refl
counted_next (b ∷ here) (x ∷ busy) (suc k) h =
    rw (counted_next here busy k (omega arith)) (counted_after (get_or here k false) (cond b (one_more x) x) (counted (take k here) busy) k)

-- Stations k to k + n - 1 where an order is, with an order more: at none of them, or at station k + i.
module _ (f : ℕ → Bool) where
  or-true : (b : Bool) → (b || true) ≡ true
  or-true true = refl
  or-true false = refl

  unmarked : (k n s : ℕ) → ((j : ℕ) → k ≤ j → j < k + n → s ≡ j → ⊥) → upward k n f ≡ upward k n (λ j. f j || eqb s j)
  unmarked k n s away = upward_from k n f (λ j. f j || eqb s j) (λ j low high. rw (ne_eqb s j (away j low high), or-false (f j)))

  marked : (k n i : ℕ) → i < n → set (upward k n f) i true ≡ upward k n (λ j. f j || eqb (k + i) j)
  unfolding upward
  marked k zero i h = absurd (let z : ⊥ = omega arith in z)
  marked k (suc n) zero h =
      rw (eq-eqb (k + 0) k (add-zero k), or-true (f k)) (ap (λ (l : List Bool). true ∷ l) (unmarked (suc k) n (k + 0) (λ j low high e. omega arith)))
  marked k (suc n) (suc i) h =
      let e : k + suc i ≡ suc k + i = omega arith in
      rw (ne_eqb (k + suc i) k (λ e. omega arith), or-false (f k), e) (ap (λ (l : List Bool). f k ∷ l) (marked (suc k) n i (omega arith)))

abbrev or_at : List Order → ℕ → ℕ → Bool
or_at orders s k = any (λ o. eqb o.station k) orders || eqb s k

occupied_more : (orders : List Order) (o : Order) → occupied (orders ++ (o ∷ [])) ≡ upward 1 max_stations (or_at orders o.station)
unfolding occupied
occupied_more orders o = upward_from 1 max_stations _ _ (λ k low high. any_more (λ p. eqb p.station k) orders o)

occupied_at : (orders : List Order) (o : Order) (i : ℕ) → o.station ≡ 1 + i → i < max_stations → set (occupied orders) i true ≡ occupied (orders ++ (o ∷ []))
unfolding occupied
occupied_at orders o i e h = rw (occupied_more orders o, e) (marked (λ k. any (λ p. eqb p.station k) orders) 1 max_stations i h)

occupied_away : (orders : List Order) (o : Order) → ((k : ℕ) → 1 ≤ k → k < 1 + max_stations → o.station ≡ k → ⊥) → occupied orders ≡ occupied (orders ++ (o ∷ []))
unfolding occupied
occupied_away orders o away = rw (occupied_more orders o) (unmarked (λ k. any (λ p. eqb p.station k) orders) 1 max_stations o.station away)

-- The same for the orders of an image, record by record.
module _ (image : List ℕ) where
  station_is : (i : ℕ) → (order_of (record_part image i)).station ≡ get_or image (records_at + record_size * i + station_at) 0
  unfolding order_of
  station_is i = get_or-take record_size (drop (records_at + record_size * i) image) station_at 0 (omega arith) ∙ get_or-drop (records_at + record_size * i) image station_at 0

  orders_next : (i : ℕ) → orders_of image (i + 1) ≡ orders_of image i ++ (order_of (record_part image i) ∷ [])
  orders_next i = upward-more i (λ j. order_of (record_part image j))

  pub occupied_none : replicate max_stations false ≡ occupied (orders_of image 0)
  unfolding occupied upward any
  occupied_none = refl

  module _ (i s : ℕ) (here : List Bool) (read : s ≡ get_or image (records_at + record_size * i + station_at) 0) (so_far : here ≡ occupied (orders_of image i)) where
    pub record_at : within 1 max_stations s ≡ true → set here (s - 1) true ≡ occupied (orders_of image (i + 1))
    record_at b =
        let range = (within_says 1 max_stations s).tells b in
        rw (so_far, orders_next i)
        (occupied_at (orders_of image i) (order_of (record_part image i)) (s - 1) (omega (arith, station_is i)) (omega arith))

    pub record_away : within 1 max_stations s ≡ false → here ≡ occupied (orders_of image (i + 1))
    record_away b =
        rw (so_far, orders_next i)
        (occupied_away (orders_of image i) (order_of (record_part image i)) (λ k low high e.
        true≢false (sym ((within_says 1 max_stations s).passes (omega (arith, station_is i))) ∙ b)))

  -- There are no more than 32 records.
  past_records : length image ≡ image_size → (more : ℕ) → occupied (orders_of image (max_live + more)) ≡ occupied (orders_of image max_live)
  past_records long zero = rw (add-zero max_live)
  past_records long (suc more) =
      let e : max_live + suc more ≡ max_live + more + 1 = omega arith in
      let none : 0 ≡ get_or image (records_at + record_size * (max_live + more) + station_at) 0 = sym (get_or-eq_default image 0 (omega arith)) in
      rw e (sym (record_away (max_live + more) 0 _ none refl refl) ∙ past_records long more)

  pub all_records : (i : ℕ) → length image ≡ image_size → i ≡ min (live_count image) max_live → occupied (orders_of image i) ≡ occupied (decode image).orders
  unfolding decode
  all_records i long e =
      either (λ b. occupied (orders_of image i) ≡ occupied (orders_of image (live_count image))) (leb (live_count image) max_live)
      (λ few. let is : i ≡ live_count image = omega (arith, leb-true (live_count image) max_live few) in rw is)
      (λ many.
      let is : i ≡ max_live = omega (arith, leb-false (live_count image) max_live many) in
      let all : max_live + (live_count image - max_live) ≡ live_count image = omega (arith, leb-false (live_count image) max_live many) in
      rw is (sym (past_records long (live_count image - max_live)) ∙ rw all))
