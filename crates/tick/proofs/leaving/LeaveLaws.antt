-- The loop over the live orders: what it has done after i of them, that nothing is to be done where no order leaves a station, and the records that are then free.
use mathlib.Core.Path.{◌≡◌, refl, sym, ap, ◌∙◌}
use mathlib.Core.Bool.{Bool, true, false, cond, ◌&&◌}
use mathlib.Core.List.Memᴰ
use mathlib.Core.List.{List, [], ◌∷◌, ◌++◌, map, map-append, append-nil}
use Prim.Native.Nat.{ℕ, zero, suc, ◌+◌, ◌-◌, ◌*◌, ◌≤◌, ◌<◌}
use native.Mathlib.Numerals.{add-one}
use native.Mathlib.Omega.{arith}
use lib.ListN.{length, length-append, get_or, take, replicate}
use lib.Seq.{take-suc, take_all, length-take-le}
use lib.Dec.{leb, eqb}
use borrow.Author.Tests.{le-leb, eqb-true, ne_eqb}
use Rattle.model.specs.declared.Order.{Order}
use Rattle.model.specs.declared.Service.{Service}
use Rattle.model.specs.Limits.{max_live}
use Rattle.model.specs.Lists.{is_zero, any, only, concat}
use Rattle.model.specs.State.{idle}
use Rattle.model.specs.Layout.{image_size, records_at, record_size, record_part}
use Rattle.model.specs.Image.{order_of, order_bytes, orders_of}
use Rattle.model.specs.Tick.{view, station_after, move_to}
use Rattle.lists.specs.Stored.{Stored}
use Rattle.lists.proofs.Stores.{stored_none, stored_then, stored_part}
use Rattle.lists.proofs.Tests.{either, both_false, only-append}
use Rattle.lists.proofs.Fills.{past, length-upward, get_d_upward, concat-append, concat-one}
use Rattle.schedule.specs.Valid.{◌∈◌}
use Rattle.schedule.specs.Pass.{moved}
use Rattle.image_laws.proofs.Rows.{get_d_in}
use Rattle.tick.specs.Selection.{Placed}
use Rattle.tick.proofs.entries.StationLaws.{at_place}
use Rattle.tick.specs.Leaving.{finishes, moved_by, remaining, rows, Held, Holds, Moved, Left}

-- A record by the entry of its own station.
moved_by_lem : (services : List Service) (o : Order) → 1 ≤ o.station → moved_by (get_or services (o.station - 1) idle) o ≡ moved services o
unfolding moved_by move_to station_after view
moved_by_lem services o h = rw (at_place idle services o.station h)

-- One entry more behind a list of which some are kept.
module _ {A : Type 0} (test : A → Bool) where
  only_kept : (l : List A) (x : A) → test x ≡ true → only test (l ++ (x ∷ [])) ≡ only test l ++ (x ∷ [])
  unfolding only
  only_kept l x e = rw (only-append test l (x ∷ []), e)

  only_dropped : (l : List A) (x : A) → test x ≡ false → only test (l ++ (x ∷ [])) ≡ only test l
  unfolding only
  only_dropped l x e = rw (only-append test l (x ∷ []), e) (append-nil (only test l))

-- No order leaves a station: the records are as they were.
none_at : (services : List Service) (i : ℕ) → any finishes services ≡ false → finishes (get_or services i idle) ≡ false
unfolding any finishes
none_at [] i e = refl
none_at (x ∷ l) zero e = (both_false (finishes x) (any finishes l) e).0
none_at (x ∷ l) (suc i) e = none_at l i (both_false (finishes x) (any finishes l) e).1

stays_put : (e : Service) (o : Order) → finishes e ≡ false → 1 ≤ o.ticket → moved_by e o ≡ o
unfolding moved_by move_to finishes
stays_put e o none named =
    either (λ b. move_to (cond (b && is_zero e.left) (o.station + 1) o.station) o ≡ o) (eqb e.ticket o.ticket)
    (λ t.
    let same : e.ticket ≡ o.ticket = eqb-true e.ticket o.ticket t in
    let busy : eqb e.ticket 0 ≡ false = ne_eqb e.ticket 0 (λ z. omega arith) in
    let more : is_zero e.left ≡ false = rw busy at none in
    rw more)
    (λ t. refl)

module _ (services : List Service) (quiet : any finishes services ≡ false) where
  unmoved : (o : Order) → Placed o → moved services o ≡ o
  unmoved o there = sym (moved_by_lem services o there.low) ∙ stays_put (get_or services (o.station - 1) idle) o (none_at services (o.station - 1) quiet) there.named

  all_stay : (n : ℕ) (orders : List Order) → ((o : Order) → o ∈ orders → Placed o × (o.station ≤ n)) → remaining n services orders ≡ orders
  unfolding remaining only
  all_stay n [] each = refl
  all_stay n (o ∷ orders) each =
      let there = each o (Memᴰ.head refl) in
      rw (unmoved o there.0, le-leb o.station n there.1) (ap (λ t. o ∷ t) (all_stay n orders (λ x m. each x (Memᴰ.tail m))))

module _ {n : ℕ} (services : List Service) {orders : List Order} (held : Held n orders) where
  -- Nothing yet.
  pub none_yet : (l : List ℕ) → Moved n services (take 0 orders) l 0 l
  unfolding remaining only concat
  none_yet l = record { few = omega arith; count = refl; stored = stored_none l records_at; long = refl }

  -- After the first i orders.
  module _ {i kept : ℕ} {l mid : List ℕ} (so_far : Moved n services (take i orders) l kept mid) (more : i < length orders) where
    few : kept ≤ i
    few = omega (arith, so_far.few, length-take-le i orders (omega arith))

    next_placed : Placed (get_or orders i past)
    next_placed = held.placed (get_or orders i past) (get_d_in orders past i more)

    -- The record at place i is still as it was.
    pub next_record : length l ≡ image_size → record_part mid i ≡ record_part l i
    next_record whole =
        let long = so_far.long in
        stored_part so_far.stored (omega (arith, long, few, more, held.room, whole)) (records_at + record_size * i) record_size (omega (arith, long, few))

    -- One order more: the next record, moved.
    module _ {o m : Order} (read : o ≡ get_or orders i past) (is : m ≡ moved_by (get_or services (o.station - 1) idle) o) where
      one_more_lem : map (moved services) (take (i + 1) orders) ≡ map (moved services) (take i orders) ++ (m ∷ [])
      one_more_lem =
          rw (add-one i, take-suc orders i past more, is, read, moved_by_lem services (get_or orders i past) next_placed.low) (map-append (moved services) (take i orders) (get_or orders i past ∷ []))

      stays : leb m.station n ≡ true → remaining n services (take (i + 1) orders) ≡ remaining n services (take i orders) ++ (m ∷ [])
      unfolding remaining
      stays e = rw one_more_lem (only_kept (λ o. leb o.station n) (map (moved services) (take i orders)) m e)

      goes : leb m.station n ≡ false → remaining n services (take (i + 1) orders) ≡ remaining n services (take i orders)
      unfolding remaining
      goes e = rw one_more_lem (only_dropped (λ o. leb o.station n) (map (moved services) (take i orders)) m e)

      pub one_out : leb m.station n ≡ false → Moved n services (take (i + 1) orders) l kept mid
      one_out e =
          record {
            few = omega (arith, few, length-take-le (i + 1) orders (omega arith));
            count = rw (goes e) so_far.count;
            stored = rw (goes e) so_far.stored;
            long = rw (goes e) so_far.long;
          }

      pub one_stays : leb m.station n ≡ true → {t : List ℕ} → Stored mid (records_at + record_size * kept) (order_bytes m) t → length (order_bytes m) ≡ record_size → Moved n services (take (i + 1) orders) l (kept + 1) t
      one_stays e w h =
          let rest = remaining n services (take i orders) in
          let more_rows : rows (rest ++ (m ∷ [])) ≡ rows rest ++ order_bytes m =
          rw (map-append order_bytes rest (m ∷ []), concat-append (map order_bytes rest) (order_bytes m ∷ []), concat-one (order_bytes m)) in
          record {
            few = omega (arith, few, length-take-le (i + 1) orders (omega arith));
            count = rw (stays e, length-append rest (m ∷ []), ← so_far.count);
            stored = rw (stays e, more_rows) (stored_then so_far.stored (rw so_far.long) w);
            long = rw (stays e, more_rows, length-append (rows rest) (order_bytes m), so_far.long, h) (omega arith);
          }

-- The live orders of an image.
module _ (l : List ℕ) (live : ℕ) where
  pub count_is : length (orders_of l live) ≡ live
  count_is = length-upward 0 live (λ k. order_of (record_part l k))

  module _ {n : ℕ} (held : Held n (orders_of l live)) where
    pub room_for : live ≤ max_live
    room_for = omega (arith, count_is, held.room)

    -- No more are kept than were looked at, and in the end all were.
    pub few_of : {services : List Service} {i kept : ℕ} {mid : List ℕ} → i ≤ live → Moved n services (take i (orders_of l live)) l kept mid → kept ≤ i
    few_of {i = i} h m = omega (arith, m.few, length-take-le i (orders_of l live) (omega (arith, count_is)))

    pub below : (i : ℕ) → i < live → i < length (orders_of l live)
    below i h = omega (arith, count_is)

    -- The order that is read at place i is the next of them, at one of the stations.
    module _ {services : List Service} (whole : length l ≡ image_size) {i kept : ℕ} {mid : List ℕ} (so_far : Moved n services (take i (orders_of l live)) l kept mid) (more : i < live) {o : Order} (is : o ≡ order_of (record_part mid i)) where
      pub next_read : o ≡ get_or (orders_of l live) i past
      next_read = is ∙ ap order_of (next_record services held so_far (below i more) whole) ∙ sym (get_d_upward live (λ k. order_of (record_part l k)) i past more)

      pub placed_here : Placed o
      placed_here = rw next_read (held.placed _ (get_d_in (orders_of l live) past i (below i more)))

-- All live orders have moved, and the records that are then free are zero; or no order leaves a station, and the records stay as they are.
module _ (l : List ℕ) (live : ℕ) {n : ℕ} {services : List Service} where
  pub all_moved : {kept : ℕ} {mid : List ℕ} → Moved n services (take live (orders_of l live)) l kept mid → Moved n services (orders_of l live) l kept mid
  all_moved m = rw (take_all live (orders_of l live) (omega (arith, count_is l live))) at m

  pub kept_few : {kept : ℕ} {mid : List ℕ} → Moved n services (orders_of l live) l kept mid → kept ≤ live
  kept_few m = omega (arith, m.few, count_is l live)

  pub left : {kept : ℕ} {mid t : List ℕ} → Moved n services (orders_of l live) l kept mid → Stored mid (records_at + record_size * kept) (replicate (record_size * (live - kept)) 0) t → Left n services (orders_of l live) l kept t
  left m w =
      record { few = m.few; count = m.count; stored = rw (count_is l live) (stored_then m.stored (rw m.long) w); long = m.long }

  pub none_leaves : Held n (orders_of l live) → any finishes services ≡ false → Holds l (orders_of l live) → Left n services (orders_of l live) l live l
  none_leaves held quiet holds =
      let orders = orders_of l live in
      let All-there = all_stay services quiet n orders (λ o m. (held.placed o m, held.high o m)) in
      let none : record_size * (length orders - live) ≡ 0 = omega (arith, count_is l live) in
      record {
        few = omega (arith, count_is l live);
        count = rw All-there (sym (count_is l live));
        stored = rw (All-there, none, append-nil (rows orders)) holds.there;
        long = rw All-there (rw (count_is l live) at holds.long);
      }
