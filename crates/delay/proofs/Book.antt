-- The history beside the state: an acceptance, the starts and a tick do the same to the state that a history stands for as to the history. So stored sums and maxima
-- are those of the history.
use mathlib.Core.Path.{◌≡◌, refl, sym, ap, subst, ◌∙◌}
use mathlib.Core.Logic.{◌⊎◌, inl, inr}
use mathlib.Core.Bool.{Bool, true, false, cond}
use mathlib.Core.List.Memᴰ
use mathlib.Core.List.{List, [], ◌∷◌, ◌++◌, map}
use mathlib.Core.Option.{none, some}
use Prim.Native.Nat.{ℕ, ◌+◌, ◌≤◌, ◌<◌}
use native.Mathlib.Omega.{arith}
use lib.ListN.{length, length-map, length-append}
use lib.Dec.{leb}
use Rattle.model.specs.declared.Order.{Order}
use Rattle.model.specs.declared.Service.{Service}
use Rattle.model.specs.Lists.{total, only}
use Rattle.model.specs.Tick.{view, station_after, vacate, move_to, starts, leave}
use Rattle.model.specs.DelayBound.{sum_of, maxima_of}
use Rattle.model.specs.declared.Block.{Block}
use Rattle.model.specs.Admission.{arrival, joined_by, joined_live}
use Rattle.model.specs.History.{Entry, History, live, is_none, live_orders, entry_due, members, entering, joins, accept_in, entry_view, starts_in, leaves, leave_in}
use Rattle.model.specs.StateOf.{record_over, record_of, state_of}
use Rattle.schedule.specs.Valid.{◌∈◌, RisingBy}
use Rattle.schedule.specs.Pass.{pass_to}
use Rattle.schedule.specs.Accept.{accept_next}
use Rattle.schedule.proofs.Laws.{test, by_cond, only_in, rising_map, rising_append}
use Rattle.delay.specs.Events.{pass_in}
use Rattle.delay.proofs.Sums.{map-map}
use Rattle.lists.proofs.Maxima.{sum_of_last, maxima_of_last}
use Rattle.delay.proofs.Members.{costs_of, costs_in, costs_moved, costs_joined, costs_apart, costs_own}

-- ---- what holds of tickets: they rise, and none is larger than the count of accepted orders
pub record Filed (h : History) : Type 0 where
  pub rising : RisingBy (λ (e : Entry). e.ticket) h.orders
  pub counted : (e : Entry) → e ∈ h.orders → e.ticket ≤ length h.orders
  pub known : (e : Entry) → e ∈ h.orders → (t : ℕ) → t ∈ e.interference → t ≤ length h.orders

-- ---- two lists side by side: entries that pass the test change alike on both sides, the others stay out
module _ {A B : Type 0} (before after : A → B) (p : A → Bool) (f : A → A) (g : B → B) where
  through_append : (x : A) → p x ≡ true → ((a : A) → p (f a) ≡ p a) → (l : List A) → ((a : A) → a ∈ l → p a ≡ true → after (f a) ≡ g (before a)) → map after (only p (map f l ++ (x ∷ []))) ≡ map g (map before (only p l)) ++ (after x ∷ [])
  unfolding only
  through_append x e same [] alike = rw e
  through_append x e same (a ∷ l) alike = go (through_append x e same l (λ y m. alike y (Memᴰ.tail m))) (test (p a))
    where
      go : map after (only p (map f l ++ (x ∷ []))) ≡ map g (map before (only p l)) ++ (after x ∷ []) → (p a ≡ true) ⊎ (p a ≡ false) → map after (only p (map f (a ∷ l) ++ (x ∷ []))) ≡ map g (map before (only p (a ∷ l))) ++ (after x ∷ [])
      go ih (inl c) = rw (same a ∙ c, c, ← alike a (Memᴰ.head refl) c) (ap {B = List B} (λ r. after (f a) ∷ r) ih)
      go ih (inr c) = rw (same a ∙ c, c) ih

  through_only : (q : B → Bool) → ((a : A) → p a ≡ true → p (f a) ≡ q (g (before a))) → ((a : A) → p a ≡ false → p (f a) ≡ false) → (l : List A) → ((a : A) → p a ≡ true → after (f a) ≡ g (before a))
      → map after (only p (map f l)) ≡ only q (map g (map before (only p l)))
  unfolding only
  through_only q tests gone [] alike = refl
  through_only q tests gone (a ∷ l) alike = go (through_only q tests gone l alike) (test (p a)) (test (p (f a)))
    where
      go : map after (only p (map f l)) ≡ only q (map g (map before (only p l))) → (p a ≡ true) ⊎ (p a ≡ false) → (p (f a) ≡ true) ⊎ (p (f a) ≡ false) → map after (only p (map f (a ∷ l))) ≡ only q (map g (map before (only p (a ∷ l))))
      go ih (inl e) (inl c) = rw (e, c, sym (tests a e) ∙ c, alike a e) (ap {B = List B} (λ r. g (before a) ∷ r) ih)
      go ih (inl e) (inr c) = rw (e, c, sym (tests a e) ∙ c) ih
      go ih (inr e) c = rw (e, gone a e) ih

-- ---- an entry that an arrival joins
module _ (t : ℕ) (e : Entry) where
  pub joins_out : (joins t e).out ≡ e.out
  unfolding joins
  joins_out = by_cond (λ (x : Entry). x.out ≡ e.out) (live e) refl refl

  joins_ticket : (joins t e).ticket ≡ e.ticket
  unfolding joins
  joins_ticket = by_cond (λ (x : Entry). x.ticket ≡ e.ticket) (live e) refl refl

  joins_block : (joins t e).block ≡ e.block
  unfolding joins
  joins_block = by_cond (λ (x : Entry). x.block ≡ e.block) (live e) refl refl

  pub joins_live : live (joins t e) ≡ live e
  unfolding live
  joins_live = ap is_none joins_out

  joins_set : (s : ℕ) → s ∈ (joins t e).interference → (s ≡ t) ⊎ (s ∈ e.interference)
  unfolding joins
  joins_set s m = go (live e) m
    where
      go : (x : Bool) → s ∈ (cond x (record { ticket = e.ticket; accepted = e.accepted; block = e.block; interference = t ∷ e.interference; station = e.station; out = e.out }) e).interference → (s ≡ t) ⊎ (s ∈ e.interference)
      go true q = Memᴰ.cases_cons q
      go false q = inr q

  pub joins_out_stays : live e ≡ false → joins t e ≡ e
  unfolding joins
  joins_out_stays h = rw h

-- ---- an acceptance
module _ (b : Block) (h : History) where
  abbrev pub new : Entry
  new = entering b h

  abbrev pub joined : Entry → Entry
  joined e = joins new.ticket e

  new_ticket : new.ticket ≡ length h.orders + 1
  unfolding entering
  new_ticket = refl

  pub new_live : live new ≡ true
  unfolding live entering
  new_live = refl

  pub length-accept : length (accept_in b h).orders ≡ length h.orders + 1
  unfolding accept_in
  length-accept = length-append (map joined h.orders) (new ∷ []) ∙ ap (λ (k : ℕ). k + 1) (length-map h.orders joined)

  pub same_n : (accept_in b h).n ≡ h.n
  unfolding accept_in
  same_n = refl

  pub same_clock : (accept_in b h).clock ≡ h.clock
  unfolding accept_in
  same_clock = refl

  same_services : (accept_in b h).services ≡ h.services
  unfolding accept_in
  same_services = refl

  -- where an entry after it comes from
  pub data From (x : Entry) : Type 0 where
    old : (e : Entry) → e ∈ h.orders → joined e ≡ x → From x
    entered : new ≡ x → From x

  pub from : {x : Entry} → x ∈ (accept_in b h).orders → From x
  unfolding accept_in
  from {x} m = go (Memᴰ.append_cases (map joined h.orders) m)
    where
      go : (x ∈ map joined h.orders) ⊎ (x ∈ (new ∷ [])) → From x
      go (inl q) = let w = Memᴰ.of_map joined h.orders q in old w.0 w.1 w.2
      go (inr q) = entered (sym (Memᴰ.eq_of_singleton q))

  module _ (filed : Filed h) where
    later : (x : Entry) → x ∈ map joined h.orders → x.ticket < new.ticket
    later x m =
        let w = Memᴰ.of_map joined h.orders m in
        omega (arith, filed.counted w.0 w.1, joins_ticket new.ticket w.0, ap (λ (e : Entry). e.ticket) w.2, new_ticket)

    -- the tickets of the new order's interference set
    new_known : (t : ℕ) → t ∈ new.interference → t ≤ length (accept_in b h).orders
    unfolding entering live_orders
    new_known t m = go (Memᴰ.cases_cons m)
      where
        go : (t ≡ length h.orders + 1) ⊎ (t ∈ map (λ (e : Entry). e.ticket) (only live h.orders)) → t ≤ length (accept_in b h).orders
        go (inl q) = omega (arith, length-accept)
        go (inr q) = let w = Memᴰ.of_map (λ (e : Entry). e.ticket) (only live h.orders) q in omega (arith, length-accept, filed.counted w.0 (only_in live h.orders w.1).0, w.2)

    costs_same : (tickets : List ℕ) → costs_in tickets (map joined h.orders) ≡ costs_in tickets h.orders
    costs_same tickets = costs_moved joined (λ e. joins_ticket new.ticket e) (λ e. joins_block new.ticket e) tickets h.orders

    -- members of a live order, of one that is out, and of the new one
    members_joined : (e : Entry) → live e ≡ true → members (accept_in b h) (joined e) ≡ members h e ++ (b.costs ∷ [])
    unfolding members accept_in joins entering
    members_joined e l = rw l (costs_joined new (map joined h.orders) later e.interference ∙ ap (λ (x : List (List ℕ)). x ++ (b.costs ∷ [])) (costs_same e.interference))

    pub members_out : (e : Entry) → e ∈ h.orders → live e ≡ false → members (accept_in b h) e ≡ members h e
    unfolding members accept_in
    members_out e m l = costs_apart new (map joined h.orders) later e.interference (λ t q. omega (arith, filed.known e m t q, new_ticket)) ∙ costs_same e.interference

    members_new : members (accept_in b h) new ≡ map costs_of (live_orders h) ++ (b.costs ∷ [])
    unfolding members accept_in entering live_orders
    members_new =
        let tickets = map (λ (e : Entry). e.ticket) (only live h.orders) in
        costs_joined new (map joined h.orders) later tickets ∙ ap (λ (x : List (List ℕ)). x ++ (b.costs ∷ [])) (costs_same tickets ∙ costs_own live h.orders filed.rising)

    -- the records
    pub record_joined : (e : Entry) → live e ≡ true → record_of (accept_in b h) (joined e) ≡ joined_by b (record_of h e)
    unfolding record_of joined_by joins entry_due
    record_joined e l = ap (λ (costs : List (List ℕ)). record_over costs (joined e)) (members_joined e l) ∙ rw (l, sum_of_last (members h e) b.costs, maxima_of_last (members h e) b.costs)

    live_costs : map (λ (o : Order). o.costs) (state_of h).orders ≡ map costs_of (live_orders h)
    unfolding state_of record_of
    live_costs = map-map (λ (o : Order). o.costs) (record_of h) (live_orders h)

    pub record_new : record_of (accept_in b h) new ≡ arrival (state_of h) b
    unfolding record_of state_of arrival entering entry_due sum_of maxima_of total
    record_new =
        let costs = map costs_of (live_orders h) in
        ap (λ (m : List (List ℕ)). record_over m new) members_new ∙ rw (sum_of_last costs b.costs, maxima_of_last costs b.costs, live_costs)

    live_after : map (record_of (accept_in b h)) (only live (accept_in b h).orders) ≡ map (joined_by b) (map (record_of h) (only live h.orders)) ++ (arrival (state_of h) b ∷ [])
    live_after =
        unfold accept_in in through_append (record_of h) (record_of (accept_in b h)) live joined (joined_by b) new new_live (λ e. joins_live new.ticket e) h.orders (λ e m. record_joined e)
        ∙ ap (λ (o : Order). map (joined_by b) (map (record_of h) (only live h.orders)) ++ (o ∷ [])) record_new

    pub state_accept : state_of (accept_in b h) ≡ accept_next (length h.orders + 2) (state_of h) b
    unfolding state_of accept_next joined_live live_orders
    state_accept =
        let count : length (accept_in b h).orders + 1 ≡ length h.orders + 2 = omega (arith, length-accept) in
        rw (live_after, count, same_n, same_clock, same_services)

    pub filed_accept : Filed (accept_in b h)
    unfolding accept_in
    filed_accept =
        record {
          rising = rising_append (λ (e : Entry). e.ticket) (map joined h.orders) new (rising_map (λ (e : Entry). e.ticket) joined (λ e. joins_ticket new.ticket e) h.orders filed.rising) later;
          counted = λ x m. counted (from m);
          known = λ x m t q. known q (from m);
        }
      where
        counted : {x : Entry} → From x → x.ticket ≤ length (accept_in b h).orders
        counted (old e m q) = omega (arith, length-accept, filed.counted e m, joins_ticket new.ticket e, ap (λ (y : Entry). y.ticket) q)
        counted (entered q) = omega (arith, length-accept, new_ticket, ap (λ (y : Entry). y.ticket) q)

        joined_known : {e : Entry} {t : ℕ} → e ∈ h.orders → (t ≡ new.ticket) ⊎ (t ∈ e.interference) → t ≤ length (accept_in b h).orders
        joined_known m (inl q) = omega (arith, length-accept, new_ticket)
        joined_known {e} {t} m (inr q) = omega (arith, length-accept, filed.known e m t q)

        known : {x : Entry} {t : ℕ} → t ∈ x.interference → From x → t ≤ length (accept_in b h).orders
        known {x} {t} q (old e m r) = joined_known m (joins_set new.ticket e t (subst (λ (y : Entry). t ∈ y.interference) (sym r) q))
        known {x} {t} q (entered r) = new_known t (subst (λ (y : Entry). t ∈ y.interference) (sym r) q)

-- ---- the starts
map_views : (h : History) (l : List Entry) → map view (map (record_of h) l) ≡ map entry_view l
unfolding record_of view entry_view
map_views h l = map-map view (record_of h) l

pub state_starts : (h : History) → state_of (starts_in h) ≡ starts (state_of h)
unfolding state_of starts_in starts live_orders record_of members
state_starts h = rw (map_views h (live_orders h))

pub filed_starts : (h : History) → Filed h → Filed (starts_in h)
unfolding starts_in
filed_starts h filed = record { rising = filed.rising; counted = filed.counted; known = filed.known }

-- ---- leaving
module _ (h : History) where
  pub leaves_ticket : (e : Entry) → (leaves h e).ticket ≡ e.ticket
  unfolding leaves
  leaves_ticket e = by_cond (λ (x : Entry). x.ticket ≡ e.ticket) (live e) refl refl

  leaves_block : (e : Entry) → (leaves h e).block ≡ e.block
  unfolding leaves
  leaves_block e = by_cond (λ (x : Entry). x.block ≡ e.block) (live e) refl refl

  leaves_set : (e : Entry) → (leaves h e).interference ≡ e.interference
  unfolding leaves
  leaves_set e = by_cond (λ (x : Entry). x.interference ≡ e.interference) (live e) refl refl

  pub leaves_accepted : (e : Entry) → (leaves h e).accepted ≡ e.accepted
  unfolding leaves
  leaves_accepted e = by_cond (λ (x : Entry). x.accepted ≡ e.accepted) (live e) refl refl

  pub leaves_due : (e : Entry) → entry_due (leaves h e) ≡ entry_due e
  unfolding entry_due
  leaves_due e = rw (leaves_accepted e, leaves_block e)

  pub leaves_out_stays : (e : Entry) → live e ≡ false → leaves h e ≡ e
  unfolding leaves
  leaves_out_stays e l = rw l

  pub members_leave : (e : Entry) → members (leave_in h) (leaves h e) ≡ members h e
  unfolding members leave_in
  members_leave e = rw (leaves_set e) (costs_moved (leaves h) leaves_ticket leaves_block e.interference h.orders)

  abbrev moved_record : Order → Order
  moved_record o = move_to (station_after h.services (view o)) o

  record_leave : (e : Entry) → live e ≡ true → record_of (leave_in h) (leaves h e) ≡ moved_record (record_of h e)
  unfolding record_of leaves move_to view entry_view entry_due
  record_leave e l = ap (λ (costs : List (List ℕ)). record_over costs (leaves h e)) (members_leave e) ∙ rw l

  -- an order stays live while its station is within the pipeline
  out_is : (k : ℕ) → is_none (cond (leb k h.n) none (some h.clock)) ≡ leb k h.n
  unfolding is_none
  out_is k = go (leb k h.n)
    where
      go : (b : Bool) → is_none (cond b none (some h.clock)) ≡ b
      go true = refl
      go false = refl

  leaves_live : (e : Entry) → live e ≡ true → live (leaves h e) ≡ leb (moved_record (record_of h e)).station h.n
  unfolding leaves live record_of move_to view entry_view
  leaves_live e l = rw l (out_is (station_after h.services (entry_view e)))

  leaves_gone : (e : Entry) → live e ≡ false → live (leaves h e) ≡ false
  leaves_gone e l = ap live (leaves_out_stays e l) ∙ l

  live_left : map (record_of (leave_in h)) (only live (leave_in h).orders) ≡ only (λ (o : Order). leb o.station h.n) (map moved_record (map (record_of h) (only live h.orders)))
  live_left = unfold leave_in in through_only (record_of h) (record_of (leave_in h)) live (leaves h) moved_record (λ (o : Order). leb o.station h.n) leaves_live leaves_gone h.orders record_leave

  count_left : length (leave_in h).orders ≡ length h.orders
  unfolding leave_in
  count_left = length-map h.orders (leaves h)

  left_n : (leave_in h).n ≡ h.n
  unfolding leave_in
  left_n = refl

  left_clock : (leave_in h).clock ≡ h.clock
  unfolding leave_in
  left_clock = refl

  left_services : (leave_in h).services ≡ map vacate h.services
  unfolding leave_in
  left_services = refl

  pub state_leave : state_of (leave_in h) ≡ leave (state_of h)
  unfolding state_of leave live_orders
  state_leave = rw (live_left, count_left, left_n, left_clock, left_services)

  pub filed_leave : Filed h → Filed (leave_in h)
  unfolding leave_in
  filed_leave filed =
      record {
        rising = rising_map (λ (e : Entry). e.ticket) (leaves h) leaves_ticket h.orders filed.rising;
        counted = λ x m. let w = Memᴰ.of_map (leaves h) h.orders m in omega (arith, count_left, filed.counted w.0 w.1, leaves_ticket w.0, ap (λ (e : Entry). e.ticket) w.2);
        known = λ x m t q. let w = Memᴰ.of_map (leaves h) h.orders m in omega (arith, count_left, filed.known w.0 w.1 t (subst (λ (l : List ℕ). t ∈ l) (ap (λ (e : Entry). e.interference) (sym w.2) ∙ leaves_set w.0) q));
      }

-- ---- a tick
abbrev pub ticking : List Service → History → History
ticking ticked h = record { n = h.n; clock = h.clock + 1; services = ticked; orders = h.orders }

pub state_pass : (ticked : List Service) (h : History) → state_of (pass_in ticked h) ≡ pass_to ticked (state_of h)
unfolding pass_in
state_pass ticked h = state_leave (ticking ticked h) ∙ (unfold state_of record_of members live_orders pass_to in refl)

pub filed_pass : (ticked : List Service) (h : History) → Filed h → Filed (pass_in ticked h)
unfolding pass_in
filed_pass ticked h filed = filed_leave (ticking ticked h) (record { rising = filed.rising; counted = filed.counted; known = filed.known })
