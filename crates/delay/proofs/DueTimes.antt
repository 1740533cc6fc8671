-- Due times hold after every list of events: the promise is kept on the state that the history stands for, and an order that leaves was live one tick before.
use mathlib.Core.Path.{◌≡◌, refl, sym, ap, subst, ◌∙◌}
use mathlib.Core.Logic.{◌⊎◌, inl, inr}
use mathlib.Core.Bool.{true, false, cond, true≢false}
use mathlib.Core.List.Memᴰ
use mathlib.Core.List.{List, [], ◌∷◌, map}
use mathlib.Core.Option.{Option, none, some, some-injective, some-ne-none}
use Prim.Native.Nat.{ℕ, ◌+◌, ◌≤◌, ◌<◌}
use native.Mathlib.Omega.{arith}
use lib.ListN.{length, length-map}
use lib.Dec.{leb, eqb}
use borrow.Author.Tests.{leb-true, leb-false, ne_eqb}
use Rattle.model.specs.declared.Order.{Order}
use Rattle.model.specs.declared.Service.{Service}
use Rattle.model.specs.Limits.{max_stations, last_ticket}
use Rattle.model.specs.Lists.{at, only}
use Rattle.model.specs.State.{State, idle, fresh}
use Rattle.model.specs.Tick.{one_less, station_after}
use Rattle.model.specs.DelayBound.{sum_of, maxima_of, delay_bound, bound_tick, on_time}
use Rattle.model.specs.declared.Block.{Block}
use Rattle.model.specs.Admission.{arrival, joined_by, joined_live, accept}
use Rattle.model.specs.History.{Entry, History, begun, live, is_none, live_orders, entry_due, members, entry_bound, accept_in, entry_view, starts_in, tick_in, leaves, leave_in, advance_in}
use Rattle.model.specs.StateOf.{record_of, state_of}
use Rattle.schedule.specs.Valid.{◌∈◌, Ready}
use Rattle.schedule.specs.Pass.{Ticked}
use Rattle.schedule.specs.Accept.{Acceptable, accept_next}
use Rattle.schedule.proofs.Laws.{test, all_member, in_only, unique_by}
use Rattle.schedule.proofs.Starts.{ready_starts}
use Rattle.schedule.proofs.Pass.{ticked_plain, Onward, onward}
use Rattle.schedule.proofs.Accept.{plain_accept}
use Rattle.delay.specs.Promise.{Promise}
use Rattle.delay.specs.Events.{Event, accepting, starting, passing, pass_in, happens, after_events, MayAccept, MayPass, MayHappen, AllMayHappen, state_after}
use Rattle.delay.specs.DueTimes.{Reached, reached, DueTimesHold, AdvanceMayCome, StoredAsInHistory, OneOutPerTick}
use Rattle.delay.proofs.Promise.{promise_fresh, promise_starts, promise_pass, promise_accept, live_in_time}
use Rattle.delay.proofs.Book.{Filed, new, joined, joins_out, joins_live, joins_out_stays, new_live, length-accept, same_n, same_clock, From, old, entered, from, members_out, record_joined, record_new, state_accept, filed_accept, state_starts, filed_starts, leaves_accepted, leaves_due, leaves_out_stays, members_leave, ticking, state_pass, filed_pass}

-- ---- live and out
pub live_none : (e : Entry) → live e ≡ true → e.out ≡ none
unfolding live
live_none e l = go e.out l
  where
    go : (x : Option ℕ) → is_none x ≡ true → x ≡ none
    go none q = refl
    go (some t) q = absurd (true≢false (sym q))

pub none_live : (e : Entry) → e.out ≡ none → live e ≡ true
unfolding live
none_live e q = ap is_none q

pub some_out : (e : Entry) (t : ℕ) → e.out ≡ some t → live e ≡ false
unfolding live
some_out e t q = ap is_none q

-- ---- what holds of a history after every list of events
pub record Kept (h : History) : Type 0 where
  pub stations : 1 ≤ h.n
  pub filed : Filed h
  pub promise : Promise (state_of h)
  pub timely : (e : Entry) → e ∈ h.orders → live e ≡ true → bound_tick h.n (record_of h e) ≤ (record_of h e).due
  pub outs : (e : Entry) → e ∈ h.orders → (t : ℕ) → e.out ≡ some t → (t ≤ entry_bound h e) × (t ≤ entry_due e) × (t ≤ h.clock)
  pub one_out : (e f : Entry) → e ∈ h.orders → f ∈ h.orders → (t : ℕ) → e.out ≡ some t → f.out ≡ some t → e ≡ f

bound_is : (h : History) (e : Entry) → bound_tick h.n (record_of h e) ≡ entry_bound h e
unfolding bound_tick record_of entry_bound
bound_is h e = refl

due_is : (h : History) (e : Entry) → (record_of h e).due ≡ entry_due e
unfolding record_of
due_is h e = refl

pub live_record : (h : History) (e : Entry) → e ∈ h.orders → live e ≡ true → record_of h e ∈ (state_of h).orders
unfolding state_of live_orders
live_record h e m l = Memᴰ.map (record_of h) (in_only live h.orders m l)

pub kept_live : (h : History) → Kept h → (e : Entry) → e ∈ h.orders → live e ≡ true → (h.clock < entry_bound h e) × (h.clock < entry_due e)
unfolding state_of
kept_live h kept e m l =
    let ahead : h.clock < bound_tick h.n (record_of h e) = live_in_time (state_of h) kept.stations kept.promise (record_of h e) (live_record h e m l) in
    (omega (arith, ahead, bound_is h e), omega (arith, ahead, kept.timely e m l, due_is h e))

-- ---- the beginning
pub kept_begun : (n : ℕ) → 1 ≤ n → n ≤ max_stations → Kept (begun n)
unfolding begun state_of live_orders only
kept_begun n low high =
    record {
      stations = low;
      filed = record { rising = tt; counted = λ e m. absurd (Memᴰ.not-nil m); known = λ e m. absurd (Memᴰ.not-nil m) };
      promise = unfold fresh in promise_fresh n high;
      timely = λ e m. absurd (Memᴰ.not-nil m);
      outs = λ e m. absurd (Memᴰ.not-nil m);
      one_out = λ e f m. absurd (Memᴰ.not-nil m);
    }

-- ---- an acceptance
module _ (b : Block) (h : History) (kept : Kept h) (may : MayAccept h b) where
  acceptable : Acceptable (state_of h) b
  unfolding state_of
  acceptable = record { stations = kept.stations; ticket = omega arith; costs = λ k low high. (may.costs k low high).0 }

  promise_after : Promise (state_of (accept_in b h))
  promise_after =
      subst Promise (sym (state_accept b h kept.filed))
      (promise_accept (length h.orders + 2) (state_of h) b acceptable (inr (unfold state_of in omega arith)) kept.promise)

  on_time_lem : (o : Order) → on_time h.n o ≡ true → bound_tick h.n o ≤ o.due
  unfolding on_time
  on_time_lem o e = leb-true (bound_tick h.n o) o.due e

  OrderOnTime : Order → Type 0
  OrderOnTime o = bound_tick h.n o ≤ o.due

  timely_joined : (e : Entry) → e ∈ h.orders → live e ≡ true → OrderOnTime (record_of (accept_in b h) (joined b h e))
  unfolding joined_live OrderOnTime
  timely_joined e m l = subst OrderOnTime (sym (record_joined b h kept.filed e l)) (on_time_lem (joined_by b (record_of h e)) (all_member (on_time h.n) (joined_live (state_of h) b) may.live_on_time (Memᴰ.map (joined_by b) (live_record h e m l))))

  timely_new : OrderOnTime (record_of (accept_in b h) (new b h))
  unfolding OrderOnTime
  timely_new = subst OrderOnTime (sym (record_new b h kept.filed)) (on_time_lem (arrival (state_of h) b) may.arrival_on_time)

  -- an order that was out stays as it was, and so does its bound
  bound_out : (e : Entry) → e ∈ h.orders → live e ≡ false → entry_bound (accept_in b h) e ≡ entry_bound h e
  unfolding entry_bound
  bound_out e m l = rw (members_out b h kept.filed e m l, same_n b h)

  -- an order that is out after an acceptance was out before it
  was_out : {x : Entry} {t : ℕ} → x.out ≡ some t → From b h x → (x ∈ h.orders) × (live x ≡ false)
  was_out {x} {t} q (entered r) = absurd (some-ne-none t (sym q ∙ ap (λ (e : Entry). e.out) (sym r) ∙ live_none (new b h) (new_live b h)))
  was_out {x} {t} q (old e m r) =
      let l : live e ≡ false = some_out e t (sym (joins_out (new b h).ticket e) ∙ ap (λ (y : Entry). y.out) r ∙ q) in
      let is : e ≡ x = sym (joins_out_stays (new b h).ticket e l) ∙ r in
      (subst (λ (y : Entry). y ∈ h.orders) is m, ap live (sym is) ∙ l)

  pub kept_accept : Kept (accept_in b h)
  unfolding OrderOnTime
  kept_accept =
      record {
        stations = omega (arith, kept.stations, same_n b h);
        filed = filed_accept b h kept.filed;
        promise = promise_after;
        timely = λ x m l. timely l (from b h m);
        outs = λ x m t q. let w = was_out q (from b h m) in let o = kept.outs x w.0 t q in (omega (arith, o.0, bound_out x w.0 w.1), o.1, omega (arith, o.2, same_clock b h));
        one_out = λ x y m p t q r. kept.one_out x y (was_out q (from b h m)).0 (was_out r (from b h p)).0 t q r;
      }
    where
      at_n : (x : Entry) → OrderOnTime (record_of (accept_in b h) x) → bound_tick (accept_in b h).n (record_of (accept_in b h) x) ≤ (record_of (accept_in b h) x).due
      at_n x p = subst (λ (n : ℕ). bound_tick n (record_of (accept_in b h) x) ≤ (record_of (accept_in b h) x).due) (sym (same_n b h)) p

      timely : {x : Entry} → live x ≡ true → From b h x → bound_tick (accept_in b h).n (record_of (accept_in b h) x) ≤ (record_of (accept_in b h) x).due
      timely {x} l (old e m r) = at_n x (subst (λ (y : Entry). OrderOnTime (record_of (accept_in b h) y)) r (timely_joined e m (sym (joins_live (new b h).ticket e) ∙ ap live r ∙ l)))
      timely {x} l (entered r) = at_n x (subst (λ (y : Entry). OrderOnTime (record_of (accept_in b h) y)) r timely_new)

-- ---- the starts
pub kept_starts : (h : History) → Kept h → Kept (starts_in h)
unfolding starts_in record_of members entry_bound
kept_starts h kept =
    record {
      stations = kept.stations;
      filed = filed_starts h kept.filed;
      promise = subst Promise (sym (state_starts h)) (promise_starts (state_of h) kept.promise);
      timely = kept.timely;
      outs = kept.outs;
      one_out = kept.one_out;
    }

-- ---- a tick
module _ (ticked : List Service) (h : History) (kept : Kept h) (may : MayPass h ticked) where
  abbrev ticks_on : History
  ticks_on = ticking ticked h

  abbrev after : Entry → Entry
  after e = leaves ticks_on e

  members_after : (e : Entry) → members (pass_in ticked h) (after e) ≡ members h e
  unfolding pass_in
  members_after e = members_leave ticks_on e ∙ (unfold members in refl)

  n_after : (pass_in ticked h).n ≡ h.n
  unfolding pass_in leave_in
  n_after = refl

  clock_after : (pass_in ticked h).clock ≡ h.clock + 1
  unfolding pass_in leave_in
  clock_after = refl

  bound_after : (e : Entry) → entry_bound (pass_in ticked h) (after e) ≡ entry_bound h e
  unfolding entry_bound
  bound_after e =
      ap (λ (n : ℕ). (after e).accepted + delay_bound n (sum_of (members (pass_in ticked h) (after e))) (maxima_of (members (pass_in ticked h) (after e)))) n_after
      ∙ ap (λ (m : List (List ℕ)). (after e).accepted + delay_bound h.n (sum_of m) (maxima_of m)) (members_after e)
      ∙ ap (λ (a : ℕ). a + delay_bound h.n (sum_of (members h e)) (maxima_of (members h e))) (leaves_accepted ticks_on e)

  -- an order that a tick brings out: its out tick is the new clock, and it was in service at the last station
  out_after : (e : Entry) → live e ≡ true → (t : ℕ) → (after e).out ≡ some t → (t ≡ h.clock + 1) × (h.n < station_after ticked (entry_view e))
  unfolding leaves
  out_after e l t q = go (test (leb (station_after ticked (entry_view e)) h.n)) (rw l at q)
    where
      go : (leb (station_after ticked (entry_view e)) h.n ≡ true) ⊎ (leb (station_after ticked (entry_view e)) h.n ≡ false) → cond (leb (station_after ticked (entry_view e)) h.n) none (some (h.clock + 1)) ≡ some t → (t ≡ h.clock + 1) × (h.n < station_after ticked (entry_view e))
      go (inl c) r = absurd (some-ne-none t (sym (rw c at r)))
      go (inr c) r = (sym (some-injective (h.clock + 1) t (rw c at r)), leb-false (station_after ticked (entry_view e)) h.n c)

  -- where an order after the tick comes from
  pub from_before : {x : Entry} → x ∈ (pass_in ticked h).orders → (e : Entry) × (e ∈ h.orders) × (after e ≡ x)
  unfolding pass_in leave_in
  from_before m = Memᴰ.of_map after h.orders m

  -- an order that a tick brings out was in service at the last station, and has nothing to go
  pub last_ends : (e : Entry) → e ∈ h.orders → live e ≡ true → h.n < station_after ticked (entry_view e) → ((at idle ticked h.n).ticket ≡ e.ticket) × ((at idle ticked h.n).left ≡ 0)
  unfolding entry_view record_of
  last_ends e m l far = go (onward ticked (entry_view e))
    where
      high : e.station ≤ h.n
      high = unfold state_of in (kept.promise.valid.fit (record_of h e) (live_record h e m l)).high

      go : Onward ticked (entry_view e) → ((at idle ticked h.n).ticket ≡ e.ticket) × ((at idle ticked h.n).left ≡ 0)
      go (Onward.stays q) = absurd (omega (arith, high, q))
      go (Onward.leaves q t z) =
          let last : h.n ≡ e.station = omega (arith, high, q) in
          (ap (λ (k : ℕ). (at idle ticked k).ticket) last ∙ t, ap (λ (k : ℕ). (at idle ticked k).left) last ∙ z)

  -- an order that is out after the tick: brought out by it, or out before
  pub data Out (e : Entry) (t : ℕ) : Type 0 where
    now : live e ≡ true → t ≡ h.clock + 1 → h.n < station_after ticked (entry_view e) → Out e t
    before : live e ≡ false → e.out ≡ some t → Out e t

  pub outs_after : (e : Entry) (t : ℕ) → (after e).out ≡ some t → Out e t
  outs_after e t q = elim (test (live e)) [ inl l ↦ (let w = out_after e l t q in now l w.0 w.1) | inr l ↦ before l (ap (λ (x : Entry). x.out) (sym (leaves_out_stays ticks_on e l)) ∙ q) ]

  EntryInTime : Entry → Type 0
  EntryInTime x = (t : ℕ) → x.out ≡ some t → (t ≤ entry_bound (pass_in ticked h) x) × (t ≤ entry_due x) × (t ≤ (pass_in ticked h).clock)

  in_time_after : (e : Entry) → e ∈ h.orders → EntryInTime (after e)
  unfolding EntryInTime
  in_time_after e m t q = go (outs_after e t q)
    where
      go : Out e t → (t ≤ entry_bound (pass_in ticked h) (after e)) × (t ≤ entry_due (after e)) × (t ≤ (pass_in ticked h).clock)
      go (now l u far) = let w = kept_live h kept e m l in (omega (arith, w.0, bound_after e), omega (arith, w.1, leaves_due ticks_on e), omega (arith, clock_after))
      go (before l u) = let w = kept.outs e m t u in (omega (arith, w.0, bound_after e), omega (arith, w.1, leaves_due ticks_on e), omega (arith, w.2, clock_after))

  one_after : (e f : Entry) → e ∈ h.orders → f ∈ h.orders → (t : ℕ) → (after e).out ≡ some t → (after f).out ≡ some t → after e ≡ after f
  one_after e f m p t q r = ap after (go (outs_after e t q) (outs_after f t r))
    where
      go : Out e t → Out f t → e ≡ f
      go (now l u far) (now k v away) = unique_by (λ (x : Entry). x.ticket) h.orders kept.filed.rising m p (sym (last_ends e m l far).0 ∙ (last_ends f p k away).0)
      go (now l u far) (before k v) = absurd (omega (arith, (kept.outs f p t v).2))
      go (before l u) (now k v away) = absurd (omega (arith, (kept.outs e m t u).2))
      go (before l u) (before k v) = kept.one_out e f m p t u v

  pub kept_pass : Kept (pass_in ticked h)
  unfolding EntryInTime
  kept_pass =
      record {
        stations = omega (arith, kept.stations, n_after);
        filed = filed_pass ticked h kept.filed;
        promise = subst Promise (sym (state_pass ticked h)) (promise_pass ticked (state_of h) (unfold state_of in may.ticks) may.ready kept.promise);
        timely = λ x m l. let w = from_before m in timely x w.0 w.1 w.2 l;
        outs = λ x m. let w = from_before m in subst EntryInTime w.2 (in_time_after w.0 w.1);
        one_out = λ x y m p t q r.
            let v = from_before m in
            let w = from_before p in
            sym v.2 ∙ one_after v.0 w.0 v.1 w.1 t (ap (λ (z : Entry). z.out) v.2 ∙ q) (ap (λ (z : Entry). z.out) w.2 ∙ r) ∙ w.2;
      }
    where
      timely : (x e : Entry) → e ∈ h.orders → after e ≡ x → live x ≡ true → bound_tick (pass_in ticked h).n (record_of (pass_in ticked h) x) ≤ (record_of (pass_in ticked h) x).due
      timely x e m is l = go (test (live e))
        where
          go : (live e ≡ true) ⊎ (live e ≡ false) → bound_tick (pass_in ticked h).n (record_of (pass_in ticked h) x) ≤ (record_of (pass_in ticked h) x).due
          go (inl k) =
              omega (
                arith,
                bound_is (pass_in ticked h) x,
                ap (entry_bound (pass_in ticked h)) (sym is),
                bound_after e,
                bound_is h e,
                kept.timely e m k,
                due_is h e,
                leaves_due ticks_on e,
                ap entry_due (sym is),
                due_is (pass_in ticked h) x,
              )
          go (inr k) = absurd (true≢false (sym l ∙ ap live (sym is ∙ leaves_out_stays ticks_on e k) ∙ k))

-- ---- every list of events
kept_happens : (h : History) (e : Event) → MayHappen h e → Kept h → Kept (happens h e)
kept_happens h (accepting b) may kept = kept_accept b h kept may
kept_happens h starting may kept = kept_starts h kept
kept_happens h (passing ticked) may kept = kept_pass ticked h kept may

pub kept_after : (events : List Event) (h : History) → AllMayHappen h events → Kept h → Kept (after_events h events)
kept_after [] h may kept = kept
kept_after (e ∷ later) h may kept = kept_after later (happens h e) may.1 (kept_happens h e may.0 kept)

pub kept_reached : (n : ℕ) (events : List Event) → Reached n events → Kept (reached n events)
kept_reached n events r = kept_after events (begun n) r.allowed (kept_begun n r.low r.high)

pub due_times_hold : DueTimesHold
due_times_hold n events r e m =
    let kept = kept_reached n events r in
    record {
      out_in_time = λ t q. let w = kept.outs e m t q in (w.0, w.1);
      live_in_time = λ q. kept_live (reached n events) kept e m (none_live e q);
    }

pub one_out_per_tick : OneOutPerTick
one_out_per_tick n events r = (kept_reached n events r).one_out

-- after the starts a tick may pass, with early ends or without
pub may_pass : (h : History) → Kept h → (ticked : List Service) → Ticked (starts_in h).services ticked → MayPass (starts_in h) ticked
may_pass h kept ticked ticks = record { ready = subst Ready (sym (state_starts h)) (ready_starts (state_of h) kept.promise.valid); ticks = ticks }

pub advance_may_come : AdvanceMayCome
unfolding pass_in advance_in tick_in
advance_may_come n events r = let h = reached n events in (may_pass h (kept_reached n events r) (map one_less (starts_in h).services) (ticked_plain (starts_in h).services), refl)

-- ---- a state goes through the same events
count_grows : (events : List Event) (h : History) → length h.orders ≤ length (after_events h events).orders
unfolding starts_in pass_in leave_in
count_grows [] h = omega arith
count_grows (accepting b ∷ later) h = omega (arith, length-accept b h, count_grows later (accept_in b h))
count_grows (starting ∷ later) h = count_grows later (starts_in h)
count_grows (passing ticked ∷ later) h = omega (arith, length-map h.orders (leaves (ticking ticked h)), count_grows later (pass_in ticked h))

next_is : (h : History) → length h.orders + 1 < last_ticket → cond (eqb (state_of h).next last_ticket) 0 ((state_of h).next + 1) ≡ length h.orders + 2
unfolding state_of
next_is h few = rw (ne_eqb (length h.orders + 1) last_ticket (λ e. omega arith)) (omega arith)

pub accept_as : (b : Block) (h : History) → Filed h → length h.orders + 1 < last_ticket → accept (state_of h) b ≡ state_of (accept_in b h)
accept_as b h filed few = plain_accept (state_of h) b ∙ ap (λ (next : ℕ). accept_next next (state_of h) b) (next_is h few) ∙ sym (state_accept b h filed)

stored : (events : List Event) (h : History) → Kept h → AllMayHappen h events → length (after_events h events).orders < last_ticket → state_after (state_of h) events ≡ state_of (after_events h events)
stored [] h kept may few = refl
stored (accepting b ∷ later) h kept may few =
    ap (λ (s : State). state_after s later) (accept_as b h kept.filed (omega (arith, length-accept b h, count_grows later (accept_in b h)))) ∙ stored later (accept_in b h) (kept_accept b h kept may.0) may.1 few
stored (starting ∷ later) h kept may few = ap (λ (s : State). state_after s later) (sym (state_starts h)) ∙ stored later (starts_in h) (kept_starts h kept) may.1 few
stored (passing ticked ∷ later) h kept may few = ap (λ (s : State). state_after s later) (sym (state_pass ticked h)) ∙ stored later (pass_in ticked h) (kept_pass ticked h kept may.0) may.1 few

pub begun_is : (n : ℕ) → fresh n ≡ state_of (begun n)
unfolding fresh state_of begun live_orders only
begun_is n = refl

pub stored_as_in_history : StoredAsInHistory
stored_as_in_history n events r few = ap (λ (s : State). state_after s events) (begun_is n) ∙ stored events (begun n) (kept_begun n r.low r.high) r.allowed few
