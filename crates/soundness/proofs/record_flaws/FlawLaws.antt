-- What is 0 in the rows of flaws and of ranks, place by place, says what the clauses say.
use mathlib.Core.Path.{◌≡◌, refl, sym, ap, ◌∙◌}
use mathlib.Core.Bool.{Bool, true, false, ◌&&◌}
use mathlib.Core.List.{List}
use Prim.Native.Nat.{ℕ, zero, suc, ◌+◌, ◌-◌, ◌≤◌, ◌<◌, min}
use native.Mathlib.Nat.{not-suc-le-zero}
use native.Mathlib.Omega.{arith}
use lib.ListN.{length, get_or, take, get_or-eq_default}
use lib.Bits.{bit_or}
use lib.Dec.{leb, ltb}
use borrow.Author.Tests.{ltb-true, ltb-false, lt-ltb, le-ltb}
use Rattle.std.specs.Prelude.{Result, Ok, Err}
use Rattle.std.specs.Result.{OkIff, result_unwrap_or}
use Rattle.model.specs.declared.Order.{Order}
use Rattle.model.specs.Limits.{max_cost}
use Rattle.model.specs.Lists.{at, all, is_zero, total, largest, upward}
use Rattle.model.specs.DelayBound.{on_time, bound_tick, delay_bound}
use Rattle.model.specs.Soundness.{due_in_range, station_in_use, costs_in_range, maxima_in_range, sum_in_range, zero_beyond, record_zero_beyond}
use Rattle.lists.proofs.Fills.{length-upward, get_d_upward, upward-same}
use Rattle.lists.proofs.Tests.{either, largest_under}
use Rattle.lists.proofs.Overlays.{or_zero, zero_or}
use Rattle.schedule.proofs.Laws.{at-largest}
use Rattle.image_laws.proofs.Tests.{Says, leb_says, eqb_says, and_says, in_words, entries_say}
use Rattle.image_laws.proofs.Clauses.{zero_beyond_lem, costs_say, maxima_say}
use Rattle.soundness.proofs.Facts.{same_fact}
use Rattle.soundness.specs.RowLimits.{first_places}
use Rattle.soundness.proofs.row_limits.LimitLaws.{first_place}
use Rattle.soundness.specs.RecordFlaws.{flaw_at}
use Rattle.soundness.specs.Holds.{ticks_hold, rows_hold, record_holds}

itself : (b : Bool) → Says b (b ≡ true)
itself b = record { tells = λ e. e; passes = λ e. e }

-- The clauses by what is looked at.
regrouped : (a d s c m u t r x y : Bool) → (a && d && s && c && m && u && t && (r && x && y)) ≡ (a && d && s && t && (c && m && u && x && y && r))
regrouped a d s c m u t r x y =
    sym
    (same_fact
    (and_says (and_says (and_says (and_says (itself a) (itself d)) (itself s)) (itself t)) (and_says (and_says (and_says (and_says (and_says (itself c) (itself m)) (itself u)) (itself x)) (itself y)) (itself r)))
    (in_words
    (and_says (and_says (and_says (and_says (and_says (and_says (and_says (itself a) (itself d)) (itself s)) (itself c)) (itself m)) (itself u)) (itself t)) (and_says (and_says (itself r) (itself x)) (itself y)))
    (λ f. ((((f.0.0.0.0.0.0.0, f.0.0.0.0.0.0.1), f.0.0.0.0.0.1), f.0.1), (((((f.0.0.0.0.1, f.0.0.0.1), f.0.0.1), f.1.0.1), f.1.1), f.1.0.0)))
    (λ f. (((((((f.0.0.0.0, f.0.0.0.1), f.0.0.1), f.1.0.0.0.0.0), f.1.0.0.0.0.1), f.1.0.0.0.1), f.0.1), ((f.1.1, f.1.0.0.1), f.1.0.1)))))

pub holds_is : (n clock : ℕ) (o : Order) → record_holds n clock o ≡ (ticks_hold n clock o && (rows_hold n o && zero_beyond n o.ranks))
unfolding record_holds ticks_hold rows_hold record_zero_beyond
holds_is n clock o =
    regrouped (leb o.accepted clock) (due_in_range o) (station_in_use n o) (costs_in_range n o.costs) (maxima_in_range n o) (sum_in_range o) (on_time n o) (zero_beyond n o.ranks) (zero_beyond n o.costs) (zero_beyond n o.maxima)

-- "the order on time", by what is left to the due tick.
pub on_time_is : (n : ℕ) (o : Order) {rest span left : ℕ} → span ≡ o.due - o.accepted → rest ≡ total (take (n - 1) o.maxima) → left ≡ span - o.sum
    → (leb o.accepted o.due && leb o.sum span && leb rest left) ≡ on_time n o
unfolding on_time bound_tick delay_bound
on_time_is n o {rest} {span} {left} p q r =
    let here = leb_says (o.accepted + (o.sum + total (take (n - 1) o.maxima))) o.due in
    same_fact (and_says (and_says (leb_says o.accepted o.due) (leb_says o.sum span)) (leb_says rest left))
    (in_words here (λ h. ((omega (arith, h), omega (arith, h, p)), omega (arith, h, p, q, r))) (λ h. omega (arith, h.0.0, h.0.1, h.1, p, q, r)))

-- Two rows of eight laid over each other.
module _ (a b : List ℕ) (p : length a ≡ 8) (q : length b ≡ 8) where
  abbrev overlaid : List ℕ
  overlaid = upward 0 8 (λ k. bit_or (get_or a k 0) (get_or b k 0))

  overlaid_place : (i : ℕ) → get_or overlaid i 0 ≡ bit_or (get_or a i 0) (get_or b i 0)
  overlaid_place i =
      either (λ t. get_or overlaid i 0 ≡ bit_or (get_or a i 0) (get_or b i 0)) (ltb i 8)
      (λ e. get_d_upward 8 (λ k. bit_or (get_or a k 0) (get_or b k 0)) i 0 (ltb-true i 8 e))
      (λ e.
      let past : 8 ≤ i = ltb-false i 8 e in
      get_or-eq_default overlaid 0 {n = i} (omega (arith, length-upward 0 8 (λ k. bit_or (get_or a k 0) (get_or b k 0))))
      ∙ sym (zero_or (get_or a i 0) (get_or b i 0) (get_or-eq_default a 0 {n = i} (omega arith)) (get_or-eq_default b 0 {n = i} (omega arith))))

  overlaid_at : (k : ℕ) → at 0 overlaid k ≡ bit_or (at 0 a k) (at 0 b k)
  overlaid_at zero = refl
  overlaid_at (suc i) = overlaid_place i

  pub overlaid_beyond : (n : ℕ) → zero_beyond n overlaid ≡ (zero_beyond n a && zero_beyond n b)
  overlaid_beyond n =
      same_fact (zero_beyond_lem n overlaid)
      (in_words (and_says (zero_beyond_lem n a) (zero_beyond_lem n b))
      (λ f k h. overlaid_at k ∙ zero_or (at 0 a k) (at 0 b k) (f.0 k h) (f.1 k h))
      (λ g. (λ k h. (or_zero (at 0 a k) (at 0 b k) (sym (overlaid_at k) ∙ g k h)).0, λ k h. (or_zero (at 0 a k) (at 0 b k) (sym (overlaid_at k) ∙ g k h)).1)))

-- What a place has of flaws: those so far, and the record's own.
abbrev pub gathered : List ℕ → List ℕ → List ℕ → List ℕ → List ℕ → ℕ → ℕ → ℕ
gathered flaws least most costs maxima sum i = bit_or (get_or flaws i 0) (flaw_at (get_or least i 0) (get_or most i 0) (get_or costs i 0) (get_or maxima i 0) sum)

-- The rows of an order against the limits of n.
module _ (n : ℕ) (o : Order) (fits : n ≤ 8) (long : length o.costs ≡ 8) (high : length o.maxima ≡ 8) (small : (i : ℕ) → get_or o.costs i 0 < 65536) where
  abbrev least : ℕ → ℕ
  least i = get_or (first_places n 1) i 0

  abbrev most : ℕ → ℕ
  most i = get_or (first_places n max_cost) i 0

  abbrev c : ℕ → ℕ
  c i = get_or o.costs i 0

  abbrev m : ℕ → ℕ
  m i = get_or o.maxima i 0

  abbrev flaw : ℕ → ℕ
  flaw i = bit_or (bit_or (bit_or (least i - c i) (c i - m i)) (m i - most i)) (c i - min o.sum 65535)

  -- A place that is in use, one that is not, and one past the end.
  used : (i : ℕ) → i < n → (least i ≡ 1) × (most i ≡ max_cost)
  used i h =
      let t : ltb i n ≡ true = lt-ltb i n h in
      (first_place n 1 i (omega arith) ∙ rw t, first_place n max_cost i (omega arith) ∙ rw t)

  unused : (i : ℕ) → n ≤ i → i < 8 → (least i ≡ 0) × (most i ≡ 0)
  unused i h g =
      let t : ltb i n ≡ false = le-ltb i n h in
      (first_place n 1 i g ∙ rw t, first_place n max_cost i g ∙ rw t)

  past : (i : ℕ) → 8 ≤ i → (c i ≡ 0) × (m i ≡ 0)
  past i h = (get_or-eq_default o.costs 0 {n = i} (omega arith), get_or-eq_default o.maxima 0 {n = i} (omega arith))

  -- No flaw at a place.
  Fine : ℕ → Type 0
  Fine i = (least i ≤ c i) × (c i ≤ m i) × (m i ≤ most i) × (c i ≤ o.sum)

  fine : (i : ℕ) → flaw i ≡ 0 → Fine i
  unfolding Fine
  fine i z =
      let a = or_zero (bit_or (bit_or (least i - c i) (c i - m i)) (m i - most i)) (c i - min o.sum 65535) z in
      let b = or_zero (bit_or (least i - c i) (c i - m i)) (m i - most i) a.0 in
      let d = or_zero (least i - c i) (c i - m i) b.0 in
      (omega (arith, d.0), omega (arith, d.1), omega (arith, b.1), omega (arith, a.1))

  no_flaw : (i : ℕ) → Fine i → flaw i ≡ 0
  unfolding Fine
  no_flaw i f =
      zero_or (bit_or (bit_or (least i - c i) (c i - m i)) (m i - most i)) (c i - min o.sum 65535)
      (zero_or (bit_or (least i - c i) (c i - m i)) (m i - most i)
      (zero_or (least i - c i) (c i - m i) (omega (arith, f.0)) (omega (arith, f.1)))
      (omega (arith, f.2)))
      (omega (arith, f.3, small i))

  abbrev AllFine : Type 0
  AllFine = (i : ℕ) → i < 8 → Fine i

  row_says : Says (all is_zero (upward 0 8 flaw)) AllFine
  row_says =
      in_words (entries_say is_zero (λ x. x ≡ 0) (λ x. eqb_says x 0) 0 refl (upward 0 8 flaw))
      (λ g i h. fine i (sym (get_d_upward 8 flaw i 0 h) ∙ g i))
      (λ f i.
      either (λ t. get_or (upward 0 8 flaw) i 0 ≡ 0) (ltb i 8)
      (λ e. let h : i < 8 = ltb-true i 8 e in get_d_upward 8 flaw i 0 h ∙ no_flaw i (f i h))
      (λ e. get_or-eq_default (upward 0 8 flaw) 0 {n = i} (omega (arith, ltb-false i 8 e, length-upward 0 8 flaw))))

  -- From the places to the clauses, and back.
  costs_there : AllFine → (k : ℕ) → 1 ≤ k → k ≤ n → (1 ≤ at 0 o.costs k) × (at 0 o.costs k ≤ max_cost)
  unfolding Fine
  costs_there f zero low top = absurd (not-suc-le-zero low)
  costs_there f (suc i) low top =
      let g = f i (omega arith) in
      let u = used i top in
      (omega (arith, g.0, u.0), omega (arith, g.1, g.2, u.1))

  maxima_there : AllFine → (k : ℕ) → 1 ≤ k → k ≤ n → (at 0 o.costs k ≤ at 0 o.maxima k) × (at 0 o.maxima k ≤ max_cost)
  unfolding Fine
  maxima_there f zero low top = absurd (not-suc-le-zero low)
  maxima_there f (suc i) low top =
      let g = f i (omega arith) in
      let u = used i top in
      (g.1, omega (arith, g.2, u.1))

  zeros_there : AllFine → (k : ℕ) → n < k → (at 0 o.costs k ≡ 0) × (at 0 o.maxima k ≡ 0)
  unfolding Fine
  zeros_there f zero h = absurd (not-suc-le-zero h)
  zeros_there f (suc i) h =
      either (λ t. (c i ≡ 0) × (m i ≡ 0)) (ltb i 8)
      (λ e.
      let g = f i (ltb-true i 8 e) in
      let u = unused i (omega arith) (ltb-true i 8 e) in
      (omega (arith, g.1, g.2, u.1), omega (arith, g.2, u.1)))
      (λ e. past i (ltb-false i 8 e))

  sum_there : AllFine → largest o.costs ≤ o.sum
  unfolding Fine
  sum_there f =
      largest_under o.costs o.sum
      (λ i. either (λ t. c i ≤ o.sum) (ltb i 8) (λ e. (f i (ltb-true i 8 e)).3) (λ e. omega (arith, (past i (ltb-false i 8 e)).0)))

  -- At a place in use the clauses of the stations say it, at another those of what is beyond.
  back : ((k : ℕ) → 1 ≤ k → k ≤ n → (1 ≤ at 0 o.costs k) × (at 0 o.costs k ≤ max_cost))
      → ((k : ℕ) → 1 ≤ k → k ≤ n → (at 0 o.costs k ≤ at 0 o.maxima k) × (at 0 o.maxima k ≤ max_cost))
      → largest o.costs ≤ o.sum
      → ((k : ℕ) → n < k → at 0 o.costs k ≡ 0)
      → ((k : ℕ) → n < k → at 0 o.maxima k ≡ 0)
      → AllFine
  unfolding Fine
  back costs maxima sum no_costs no_maxima i h =
      let under : c i ≤ o.sum = omega (arith, at-largest o.costs (suc i), sum) in
      either (λ t. (least i ≤ c i) × (c i ≤ m i) × (m i ≤ most i) × (c i ≤ o.sum)) (ltb i n)
      (λ e.
      let here : suc i ≤ n = ltb-true i n e in
      let u = used i here in
      let p = costs (suc i) (omega arith) here in
      let q = maxima (suc i) (omega arith) here in
      (omega (arith, p.0, u.0), q.0, omega (arith, q.1, u.1), under))
      (λ e.
      let there : n < suc i = omega (arith, ltb-false i n e) in
      let u = unused i (ltb-false i n e) h in
      let p = no_costs (suc i) there in
      let q = no_maxima (suc i) there in
      (omega (arith, u.0), omega (arith, p), omega (arith, q), under))

  rows_say : Says (rows_hold n o) AllFine
  unfolding rows_hold sum_in_range
  rows_say =
      in_words
      (and_says
      (and_says
      (and_says (and_says (costs_say n o.costs (omega arith)) (maxima_say n o (omega arith))) (leb_says (largest o.costs) o.sum))
      (zero_beyond_lem n o.costs))
      (zero_beyond_lem n o.maxima))
      (λ f. back f.0.0.0.0 f.0.0.0.1 f.0.0.1 f.0.1 f.1)
      (λ f. ((((costs_there f, maxima_there f), sum_there f), λ k h. (zeros_there f k h).0), λ k h. (zeros_there f k h).1))

  -- The flaws so far with those of the order.
  flaws_more : (flaws : List ℕ) → length flaws ≡ 8 → all is_zero (upward 0 8 (λ i. bit_or (get_or flaws i 0) (flaw i))) ≡ (all is_zero flaws && rows_hold n o)
  unfolding zero_beyond
  flaws_more flaws eight =
      let own = upward 0 8 flaw in
      ap (all is_zero)
      (upward-same 8 (λ i. bit_or (get_or flaws i 0) (flaw i)) (λ i. bit_or (get_or flaws i 0) (get_or own i 0)) (λ i h. rw (get_d_upward 8 flaw i 0 h)))
      ∙ overlaid_beyond flaws own eight (length-upward 0 8 flaw) 0
      ∙ ap (λ t. all is_zero flaws && t) (same_fact row_says rows_say)

-- A number that was tried as one of two bytes, and the largest of those where it is none.
pub narrowed : {E : Type 0} (r : Result ℕ E) (x : ℕ) → OkIff r (x < 65536) x → result_unwrap_or r 65535 ≡ min x 65535
narrowed (Ok y) x h = omega (arith, h.0, h.1)
narrowed (Err e) x h =
    either (λ b. 65535 ≡ min x 65535) (ltb x 65536)
    (λ t. absurd (h (ltb-true x 65536 t)))
    (λ t. omega (arith, ltb-false x 65536 t))

-- Of a row that has at each place what is gathered there.
pub gathered_all : (n : ℕ) {least most : List ℕ} → n ≤ 8 → least ≡ first_places n 1 → most ≡ first_places n max_cost
    → (o : Order) → length o.costs ≡ 8 → length o.maxima ≡ 8 → ((i : ℕ) → get_or o.costs i 0 < 65536)
    → (flaws row : List ℕ) {sum : ℕ} → length flaws ≡ 8 → sum ≡ min o.sum 65535
    → row ≡ upward 0 8 (gathered flaws least most o.costs o.maxima sum)
    → all is_zero row ≡ (all is_zero flaws && rows_hold n o)
gathered_all n fits low high o long tall small flaws row eight e filled =
    ap (all is_zero) filled ∙ rw (low, high, e) (flaws_more n o fits long tall small flaws eight)

-- The same of ranks.
pub ranks_all : (ranks own row : List ℕ) → length ranks ≡ 8 → length own ≡ 8 → row ≡ upward 0 8 (λ k. bit_or (get_or ranks k 0) (get_or own k 0)) → (n : ℕ) → zero_beyond n row ≡ (zero_beyond n ranks && zero_beyond n own)
ranks_all ranks own row p q e n = rw e (overlaid_beyond ranks own p q n)
