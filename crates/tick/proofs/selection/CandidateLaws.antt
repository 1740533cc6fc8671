-- The candidates with one order more in front: at its own station, if that is idle, the one of the two that goes first, at the others as before. By the
-- clauses of `first`.
use Rattle.std.proofs.Common.{◌≡◌, refl, sym, ap, ◌∙◌, true, false, cond, ◌||◌, List, [], ◌∷◌, ◌++◌, map, append_assoc, append-nil, ℕ, suc, ◌-◌, ◌≤◌, ◌<◌, length, get_or, set, replicate, inl, inr, arith, Option, Some, None}
use mathlib.Core.List.Memᴰ
use Rattle.std.proofs.Math.Option.{none, some}
use Rattle.std.proofs.Math.Option as Math
use Rattle.std.specs.List.{push}
use Rattle.std.specs.Ordering.{nat_cmp, partial_ordering_then, is_lt, is_some_and}
use Rattle.std.proofs.lemmas.Bool.Decides.{nat_tests}
use Rattle.std.specs.declared.cmp.Ordering.{Ordering}
use Rattle.std.specs.declared.cmp.Ordering.TheVariants.{Less, Equal, Greater}
use lib.ListN.{length-set, length-replicate, get_or-replicate}
use lib.Seq.{set-get_or, get_or-set_same, get_or-set_other, ext_get_or}
use lib.Dec.{eqb}
use borrow.Author.Tests.{eq-eqb, ne_eqb}
use Rattle.model.specs.declared.Order.{Order}
use Rattle.model.specs.declared.Service.{Service}
use Rattle.model.specs.Limits.{max_stations}
use Rattle.model.specs.Lists.{is_zero}
use Rattle.model.specs.State.{idle}
use Rattle.model.specs.Tick.{View, view, key_at, before, precedes, better, first}
use Rattle.lists.proofs.Tests.{either, length-numbered, get_d_numbered}
use Rattle.schedule.specs.Valid.{◌∈◌}
use Rattle.schedule.proofs.Precedence.{before_last}
use Rattle.schedule.proofs.Choice.{first_some}
use Rattle.schedule.proofs.Laws.{EqCase, eqb_cases, by_cond}
use Rattle.tick.specs.declared.selection.Candidate.{Candidate}
use Rattle.tick.specs.Selection.{Placed, nobody, candidate_of, candidate_for, candidates, key_of, preferred}

-- The library's order of tuples, figure by figure, is that of the definition.
less_then : (x y : ℕ) (xs ys : List ℕ) (p : Option Ordering) → before xs ys ≡ is_some_and is_lt p → before (x ∷ xs) (y ∷ ys) ≡ is_some_and is_lt (partial_ordering_then (Some (nat_cmp x y)) p)
unfolding before
less_then x y xs ys p h = grind (arith, nat_tests)

then_assoc : (p q r : Option Ordering) → partial_ordering_then (partial_ordering_then p q) r ≡ partial_ordering_then p (partial_ordering_then q r)
then_assoc None q r = refl
then_assoc (Some Less) q r = refl
then_assoc (Some Equal) q r = refl
then_assoc (Some Greater) q r = refl

-- The library's order of tuples is that of the definition.
pub tuples_lem : (x y z a b c : ℕ) → is_some_and is_lt (partial_ordering_then (partial_ordering_then (Some (nat_cmp x a)) (Some (nat_cmp y b))) (Some (nat_cmp z c))) ≡ before (x ∷ y ∷ z ∷ []) (a ∷ b ∷ c ∷ [])
unfolding before
tuples_lem x y z a b c =
    rw (then_assoc (Some (nat_cmp x a)) (Some (nat_cmp y b)) (Some (nat_cmp z c)))
    (sym (less_then x a (y ∷ z ∷ []) (b ∷ c ∷ []) _ (less_then y b (z ∷ []) (c ∷ []) _ (before_last z c ∙ grind (arith, nat_tests)))))

-- The default candidate, as its derive has it, is nobody.
by_figures : {a b c d : ℕ} → a ≡ 0 → b ≡ 0 → c ≡ 0 → d ≡ 0 → record { ticket = a; due = b; left = c; rank = d } ≡ nobody
by_figures t d l r = cc

pub default_nobody : {c : Candidate} → (c.ticket ≡ 0 × (c.due ≡ 0 × (c.left ≡ 0 × c.rank ≡ 0))) → c ≡ nobody
default_nobody (t, (d, (l, r))) = by_figures t d l r

candidates_length : (views : List View) (services : List Service) → length (candidates views services) ≡ length services
unfolding candidates
candidates_length views services = length-numbered (candidate_for views) 1 services

pub candidates_at : (views : List View) (services : List Service) (i : ℕ) → i < length services → get_or (candidates views services) i nobody ≡ candidate_for views (suc i) (get_or services i idle)
unfolding candidates
candidates_at views services i h = get_d_numbered (candidate_for views) services i idle nobody h

for_nobody : (k : ℕ) (e : Service) → candidate_for [] k e ≡ nobody
unfolding candidate_for candidate_of first
for_nobody k e = by_cond (λ (c : Candidate). c ≡ nobody) (is_zero e.ticket) refl refl

nobody_yet : (services : List Service) → length services ≡ max_stations → replicate max_stations nobody ≡ candidates [] services
nobody_yet services long =
    ext_get_or nobody (replicate max_stations nobody) (candidates [] services)
    (length-replicate {A = Candidate} max_stations nobody ∙ sym long ∙ sym (candidates_length [] services))
    (λ i h.
    let g : i < max_stations = omega (arith, length-replicate {A = Candidate} max_stations nobody) in
    get_or-replicate max_stations i nobody nobody g ∙ sym (candidates_at [] services i (omega (arith, long)) ∙ for_nobody (suc i) (get_or services i idle)))

-- The code's comparison is the definition's, where whoever was found before has a ticket.
prefers : (k : ℕ) (v : View) (rest : Math.Option View) → ((w : View) → rest ≡ some w → 1 ≤ w.ticket) → preferred (candidate_of k (some v)) (candidate_of k rest) ≡ candidate_of k (some (better k v rest))
unfolding preferred candidate_of key_of better precedes key_at
prefers k v none named = refl
prefers k v (some w) named =
    let n : 1 ≤ w.ticket = named w refl in
    let z : eqb w.ticket 0 ≡ false = ne_eqb w.ticket 0 (λ e. omega arith) in
    rw z (either (λ b. cond b (candidate_of k (some v)) (candidate_of k (some w)) ≡ candidate_of k (some (cond b v w))) (precedes k v w) (λ e. refl) (λ e. refl))

first_here : (k : ℕ) (v : View) (views : List View) → v.station ≡ k → first k (v ∷ views) ≡ some (better k v (first k views))
unfolding first
first_here k v views e = rw (eq-eqb v.station k e)

first_away : (k : ℕ) (v : View) (views : List View) → (v.station ≡ k → ⊥) → first k (v ∷ views) ≡ first k views
unfolding first
first_away k v views away = rw (ne_eqb v.station k away)

idle_for : (views : List View) (k : ℕ) (e : Service) → is_zero e.ticket ≡ true → candidate_for views k e ≡ candidate_of k (first k views)
unfolding candidate_for
idle_for views k e h = rw h

busy_for : (views : List View) (k : ℕ) (e : Service) → is_zero e.ticket ≡ false → candidate_for views k e ≡ nobody
unfolding candidate_for
busy_for views k e h = rw h

away_for : (k : ℕ) (v : View) (views : List View) (e : Service) → (v.station ≡ k → ⊥) → candidate_for (v ∷ views) k e ≡ candidate_for views k e
unfolding candidate_for
away_for k v views e away = rw (first_away k v views away)

module _ (services : List Service) (long : length services ≡ max_stations) (v : View) (views : List View) (k : ℕ) (high : k < max_stations) (here : v.station ≡ suc k) where
  -- At the stations where the order is not, nothing changes.
  elsewhere : (j : ℕ) → j < max_stations → (j ≡ k → ⊥) → get_or (candidates views services) j nobody ≡ get_or (candidates (v ∷ views) services) j nobody
  elsewhere j h other =
      candidates_at views services j (omega (arith, long))
      ∙ sym (candidates_at (v ∷ views) services j (omega (arith, long)) ∙ away_for (suc j) v views (get_or services j idle) (λ z. other (omega (arith, here))))

  -- It is at an idle station.
  module _ (named : (w : View) → w ∈ views → 1 ≤ w.ticket) (idles : is_zero (get_or services k idle).ticket ≡ true) where
    own : preferred (candidate_of (suc k) (some v)) (get_or (candidates views services) k nobody) ≡ get_or (candidates (v ∷ views) services) k nobody
    own =
        rw (candidates_at views services k (omega (arith, long)), candidates_at (v ∷ views) services k (omega (arith, long)), idle_for views (suc k) (get_or services k idle) idles, idle_for (v ∷ views) (suc k) (get_or services k idle) idles, first_here (suc k) v views here)
        (prefers (suc k) v (first (suc k) views) (λ w e. named w (first_some (suc k) views w e).live))

    one_more_lem : (found : List Candidate) (r : Candidate) → found ≡ candidates views services → r ≡ preferred (candidate_of (suc k) (some v)) (get_or found k nobody) → set found k r ≡ candidates (v ∷ views) services
    one_more_lem found r e q =
        ext_get_or nobody (set found k r) (candidates (v ∷ views) services)
        (length-set found k r ∙ found_long ∙ sym (candidates_length (v ∷ views) services ∙ long))
        (λ j l. each j (omega (arith, length-set found k r, found_long)) (eqb_cases j k))
      where
        found_long : length found ≡ max_stations
        found_long = ap length e ∙ candidates_length views services ∙ long

        each : (j : ℕ) → j < max_stations → EqCase j k → get_or (set found k r) j nobody ≡ get_or (candidates (v ∷ views) services) j nobody
        each j g (inl c) = rw (c.1, get_or-set_same found k r nobody (omega (arith, found_long)), q, e) own
        each j g (inr c) = rw (get_or-set_other found k j r nobody c.1, e) (elsewhere j g c.1)

  -- It is at a busy one.
  one_waits : is_zero (get_or services k idle).ticket ≡ false → candidates views services ≡ candidates (v ∷ views) services
  one_waits busy =
      ext_get_or nobody (candidates views services) (candidates (v ∷ views) services)
      (candidates_length views services ∙ sym (candidates_length (v ∷ views) services))
      (λ j l. each j (omega (arith, candidates_length views services, long)) (eqb_cases j k))
    where
      each : (j : ℕ) → j < max_stations → EqCase j k → get_or (candidates views services) j nobody ≡ get_or (candidates (v ∷ views) services) j nobody
      each j g (inl c) =
          rw (c.1, candidates_at views services k (omega (arith, long)), candidates_at (v ∷ views) services k (omega (arith, long)), busy_for views (suc k) (get_or services k idle) busy, busy_for (v ∷ views) (suc k) (get_or services k idle) busy)
      each j g (inr c) = elsewhere j g c.1

-- The orders are gone over from the last to the first: those that are left, and the candidates among those that were tried.
pub record Tried (services : List Service) (orders left : List Order) (found : List Candidate) : Type 0 where
  pub tried : List Order
  pub whole : orders ≡ left ++ tried
  pub is : found ≡ candidates (map view tried) services

module _ {services : List Service} (long : length services ≡ max_stations) {orders : List Order} where
  pub none_tried : {left : List Order} → left ≡ orders → Tried services orders left (replicate max_stations nobody)
  none_tried {left} e = record { tried = []; whole = sym (append-nil left ∙ e); is = nobody_yet services long }

  pub all_tried : {left : List Order} {found : List Candidate} → Tried services orders left found → length left ≡ 0 → found ≡ candidates (map view orders) services
  all_tried {left = []} t e = rw t.whole t.is
  all_tried {left = o ∷ l} t e = absurd (omega arith)

  -- One order more, the last of those that are left: it is tried at its station.
  module _ (placed : (o : Order) → o ∈ orders → Placed o) {left : List Order} {found : List Candidate} (t : Tried services orders left found) (rest : List Order) (o : Order) (last : left ≡ push rest o) where
    more : orders ≡ rest ++ (o ∷ t.tried)
    more = rw (t.whole, last) (append_assoc rest (o ∷ []) t.tried)

    pub last_placed : Placed o
    last_placed = placed o (rw more (Memᴰ.append_right rest (Memᴰ.head refl)))

    pub last_below : o.station - 1 < max_stations
    last_below = omega (arith, last_placed.low, last_placed.high)

    here : (view o).station ≡ suc (o.station - 1)
    unfolding view
    here = omega (arith, last_placed.low)

    later : (w : View) → w ∈ map view t.tried → 1 ≤ w.ticket
    unfolding view
    later w m =
        let p = Memᴰ.of_map view t.tried m in
        rw (← p.2) (placed p.0 (rw t.whole (Memᴰ.append_right left p.1))).named

    pub one_tried : (r : Candidate) → is_zero (get_or services (o.station - 1) idle).ticket ≡ true → r ≡ preferred (candidate_of (suc (o.station - 1)) (some (view o))) (get_or found (o.station - 1) nobody) → Tried services orders rest (set found (o.station - 1) r)
    one_tried r idles q =
        record {
          tried = o ∷ t.tried;
          whole = more;
          is = one_more_lem services long (view o) (map view t.tried) (o.station - 1) last_below here later idles found r t.is q;
        }

    pub one_goes : {c : Candidate} → is_zero (get_or services (o.station - 1) idle).ticket ≡ true → c ≡ candidate_of (suc (o.station - 1)) (some (view o)) → (is_zero (get_or found (o.station - 1) nobody).ticket || before (key_of c) (key_of (get_or found (o.station - 1) nobody))) ≡ true → Tried services orders rest (set found (o.station - 1) c)
    unfolding preferred
    one_goes {c} idles e g = one_tried c idles (rw (← e, g))

    pub one_stays : {c : Candidate} → is_zero (get_or services (o.station - 1) idle).ticket ≡ true → c ≡ candidate_of (suc (o.station - 1)) (some (view o)) → (is_zero (get_or found (o.station - 1) nobody).ticket || before (key_of c) (key_of (get_or found (o.station - 1) nobody))) ≡ false → Tried services orders rest found
    unfolding preferred
    one_stays idles e g = rw (set-get_or found (o.station - 1) nobody) at (one_tried (get_or found (o.station - 1) nobody) idles (rw (← e, g)))

    pub one_passed : is_zero (get_or services (o.station - 1) idle).ticket ≡ false → Tried services orders rest found
    one_passed busy =
        record {
          tried = o ∷ t.tried;
          whole = more;
          is = t.is ∙ one_waits services long (view o) (map view t.tried) (o.station - 1) last_below here busy;
        }
