-- Tests of a list's entries, as a loop makes them: with one entry more the test is the one so far and that of the entry. Over any test and any type. Of a
-- row, the first n entries are in use: the loop over all of them tests that beside the entry. The same for the largest entry and for sums.
use mathlib.Core.Path.{◌≡◌, refl, sym, ap, ap₂, ◌∙◌}
use mathlib.Core.Bool.{Bool, true, false, not, cond, ◌&&◌, ◌||◌, true≢false}
use mathlib.Core.List.{List, [], ◌∷◌, ◌++◌, map}
use Prim.Native.Nat.{ℕ, zero, suc, ◌+◌, ◌-◌, ◌≤◌, ◌<◌, max}
use native.Mathlib.Nat.{add-zero}
use native.Mathlib.Numerals.{add-one}
use native.Mathlib.Omega.{arith}
use lib.ListN.{length, get_or, take, drop, replicate, drop_of_length-le}
use lib.Seq.{take-nil, drop-nil, take-suc, take_all, take-take, length-take-le, drop-append-le, ext_get_or}
use lib.Dec.{leb, ltb, eqb}
use borrow.Author.Tests.{eqb-true, ltb-true, ltb-false, leb-true, leb-false, lt-ltb, le-ltb, lt-leb, le-leb}
use Rattle.model.specs.Lists.{within, is_zero, total, largest, concat, all, any, same, only, numbered, all_stations, upward}
use Rattle.lists.proofs.Fills.{length-upward, get_d_upward, upward-more, concat-append, concat-one}

pub and_true : (a : Bool) → (a && true) ≡ a
and_true true = refl
and_true false = refl

pub and_false : (a : Bool) → (a && false) ≡ false
and_false true = refl
and_false false = refl

pub or-false : (a : Bool) → (a || false) ≡ a
or-false true = refl
or-false false = refl

pub and_assoc : (a b c : Bool) → (a && b && c) ≡ (a && (b && c))
and_assoc true b c = refl
and_assoc false b c = refl

or_assoc : (a b c : Bool) → (a || b || c) ≡ (a || (b || c))
or_assoc true b c = refl
or_assoc false b c = refl

pub and_both : (a b : Bool) → (a && b) ≡ true → (a ≡ true) × (b ≡ true)
and_both true b h = (refl, h)
and_both false b h = (h, cc)

pub both_false : (a b : Bool) → (a || b) ≡ false → (a ≡ false) × (b ≡ false)
both_false true b h = (h, cc)
both_false false b h = (refl, h)

pub and_middle : (a b c d : Bool) → (a && b && (c && d)) ≡ (a && c && (b && d))
and_middle true true c d = refl
and_middle true false true d = refl
and_middle true false false d = refl
and_middle false b c d = refl

-- By the two cases of a test.
pub either : (P : Bool → Type 0) (b : Bool) → (b ≡ true → P true) → (b ≡ false → P false) → P b
either P true p q = p refl
either P false p q = q refl

-- One more of a row, of which the first n are in use.
module _ {A : Type 0} where
  used_same : (l : List A) (n k : ℕ) → k < length l → k < n → take n (take k l) ≡ take k l
  used_same l n k h u = take_all n (take k l) (omega (arith, length-take-le k l (omega arith)))

  used_more : (d : A) (l : List A) (n k : ℕ) → k < length l → k < n → take n (take (k + 1) l) ≡ take k l ++ (get_or l k d ∷ [])
  used_more d l n k h u =
      take_all n (take (k + 1) l) (omega (arith, length-take-le (k + 1) l (omega arith))) ∙ rw (add-one, take-suc l k d h)

  unused_same : (l : List A) (n k : ℕ) → n ≤ k → take n (take (k + 1) l) ≡ take n (take k l)
  unused_same l n k u = take-take n (k + 1) l (omega arith) ∙ sym (take-take n k l u)

module _ {A : Type 0} (test : A → Bool) where
  pub all_append : (l m : List A) → all test (l ++ m) ≡ (all test l && all test m)
  unfolding all
  all_append [] m = refl
  all_append (x ∷ l) m = rw (all_append l m, and_assoc)

  pub all_more : (l : List A) (x : A) → all test (l ++ (x ∷ [])) ≡ (all test l && test x)
  unfolding all
  all_more l x = all_append l (x ∷ []) ∙ rw (and_true (test x))

  pub any_more : (l : List A) (x : A) → any test (l ++ (x ∷ [])) ≡ (any test l || test x)
  unfolding any
  any_more [] x = or-false (test x)
  any_more (y ∷ l) x = rw (any_more l x) (sym (or_assoc (test y) (any test l) (test x)))

  -- Rows end to end, one row more.
  pub all-rows : (i : ℕ) (f : ℕ → List A) → all test (concat (upward 0 (i + 1) f)) ≡ (all test (concat (upward 0 i f)) && all test (f i))
  all-rows i f =
      rw (upward-more i f, concat-append (upward 0 i f) (f i ∷ []), concat-one (f i)) (all_append (concat (upward 0 i f)) (f i))

  -- The entries from place n on: of none, and of one more.
  pub none_beyond : (n : ℕ) → true ≡ all test (drop n [])
  unfolding all
  none_beyond n = rw (drop-nil {A = A} n)

  pub all-beyond : (d : A) (n : ℕ) (l : List A) (k : ℕ) → k < length l → all test (drop n (take (k + 1) l)) ≡ (all test (drop n (take k l)) && (ltb k n || test (get_or l k d)))
  unfolding all
  all-beyond d n l k h =
      let long : length (take k l) ≡ k = length-take-le k l (omega arith) in
      let more : length (take (k + 1) l) ≡ k + 1 = length-take-le (k + 1) l (omega arith) in
      either (λ b. all test (drop n (take (k + 1) l)) ≡ (all test (drop n (take k l)) && (b || test (get_or l k d)))) (ltb k n)
      (λ e.
      let low : k < n = ltb-true k n e in
      rw (drop_of_length-le (take (k + 1) l) {i = n} (omega arith), drop_of_length-le (take k l) {i = n} (omega arith)))
      (λ e.
      let high : n ≤ k = ltb-false k n e in
      rw (add-one, take-suc l k d h, drop-append-le n (take k l) (get_or l k d ∷ []) (omega arith)) (all_more (drop n (take k l)) (get_or l k d)))

  -- The entries so far, and one more.
  pub all-next : (d : A) (l : List A) (k : ℕ) → k < length l → all test (take (k + 1) l) ≡ (all test (take k l) && test (get_or l k d))
  all-next d l k h = rw (add-one, take-suc l k d h) (all_more (take k l) (get_or l k d))

  -- Of a list by its entries: one more.
  pub all-upward : (n : ℕ) (f : ℕ → A) → all test (upward 0 (n + 1) f) ≡ (all test (upward 0 n f) && test (f n))
  all-upward n f = rw (upward-more n f) (all_more (upward 0 n f) (f n))

  -- One that fails is enough.
  pub all-at : (d : A) (l : List A) (i : ℕ) → i < length l → all test l ≡ true → test (get_or l i d) ≡ true
  unfolding all
  all-at d [] i h e = absurd (let z : ⊥ = omega arith in z)
  all-at d (x ∷ l) zero h e = (and_both (test x) (all test l) e).0
  all-at d (x ∷ l) (suc i) h e = all-at d l i (omega arith) (and_both (test x) (all test l) e).1

  pub one_fails : (n : ℕ) (f : ℕ → A) (i : ℕ) → i < n → test (f i) ≡ false → false ≡ all test (upward 0 n f)
  one_fails n f i h e =
      let there : get_or (upward 0 n f) i (f i) ≡ f i = get_d_upward n f i (f i) h in
      either (λ b. false ≡ b) (all test (upward 0 n f))
      (λ t. sym e ∙ ap test (sym there) ∙ all-at (f i) (upward 0 n f) i (omega (arith, length-upward 0 n f)) t)
      (λ t. refl)

  -- The first n of a row: of none, and of one more.
  pub first_none : (n : ℕ) → true ≡ all test (take n [])
  unfolding all
  first_none n = rw (take-nil {A = A} n)

  pub all_first : (d : A) (n : ℕ) (l : List A) (k : ℕ) → k < length l → all test (take n (take (k + 1) l)) ≡ (all test (take n (take k l)) && (leb n k || test (get_or l k d)))
  all_first d n l k h =
      either (λ b. all test (take n (take (k + 1) l)) ≡ (all test (take n (take k l)) && (b || test (get_or l k d)))) (leb n k)
      (λ e. rw (unused_same l n k (leb-true n k e)) (sym (and_true (all test (take n (take k l))))))
      (λ e.
      let high : k < n = leb-false n k e in
      rw (used_more d l n k h high, used_same l n k h high) (all_more (take k l) (get_or l k d)))

-- Two tests of each entry.
pub all_both : {A : Type 0} (p q : A → Bool) (l : List A) → all (λ x. p x && q x) l ≡ (all p l && all q l)
unfolding all
all_both p q [] = refl
all_both p q (x ∷ l) = rw (all_both p q l) (and_middle (p x) (q x) (all p l) (all q l))

-- Zeros are zero.
pub zeros_zero : (n m : ℕ) → all is_zero (drop n (replicate m 0)) ≡ true
unfolding all
zeros_zero zero zero = refl
zeros_zero zero (suc m) = zeros_zero zero m
zeros_zero (suc n) zero = refl
zeros_zero (suc n) (suc m) = zeros_zero n m

-- A test that does not look at the entries goes before.
pub or_all : {A : Type 0} (b : Bool) (test : A → Bool) (l : List A) → (b || all test l) ≡ all (λ x. b || test x) l
unfolding all
or_all true test [] = refl
or_all true test (x ∷ l) = or_all true test l
or_all false test l = refl

pub upward-map : {A B : Type 0} (f : A → B) (k n : ℕ) (g : ℕ → A) → map f (upward k n g) ≡ upward k n (λ i. f (g i))
unfolding upward
upward-map f k zero g = refl
upward-map f k (suc n) g = ap (λ l. f (g k) ∷ l) (upward-map f (suc k) n g)

-- Entries with their numbers.
module _ {A B : Type 0} (f : ℕ → A → B) where
  pub length-numbered : (k : ℕ) (l : List A) → length (numbered f k l) ≡ length l
  unfolding numbered
  length-numbered k [] = refl
  length-numbered k (x ∷ l) = ap suc (length-numbered (suc k) l)

  pub get_d_from : (k : ℕ) (l : List A) (i : ℕ) (d : A) (e : B) → i < length l → get_or (numbered f k l) i e ≡ f (k + i) (get_or l i d)
  unfolding numbered
  get_d_from k [] i d e h = absurd (omega arith)
  get_d_from k (x ∷ l) zero d e h = rw (add-zero k)
  get_d_from k (x ∷ l) (suc i) d e h =
      let n : k + suc i ≡ suc k + i = omega arith in
      rw n (get_d_from (suc k) l i d e (omega arith))

  -- At place i stands what station i + 1 has.
  pub get_d_numbered : (l : List A) (i : ℕ) (d : A) (e : B) → i < length l → get_or (numbered f 1 l) i e ≡ f (suc i) (get_or l i d)
  get_d_numbered l i d e h =
      let n : suc i ≡ 1 + i = omega arith in
      rw n (get_d_from 1 l i d e h)

  pub numbered-append : (k : ℕ) (l m : List A) → numbered f k (l ++ m) ≡ numbered f k l ++ numbered f (k + length l) m
  unfolding numbered
  numbered-append k [] m = rw (add-zero k)
  numbered-append k (x ∷ l) m =
      let n : k + suc (length l) ≡ suc k + length l = omega arith in
      rw n (ap (λ t. f k x ∷ t) (numbered-append (suc k) l m))

  -- A list that has at each place what the station there has.
  pub is_numbered_lem : (d : A) (e : B) (l : List A) (r : List B) → length r ≡ length l → ((i : ℕ) → i < length l → get_or r i e ≡ f (suc i) (get_or l i d)) → r ≡ numbered f 1 l
  is_numbered_lem d e l r h each =
      ext_get_or e r (numbered f 1 l) (h ∙ sym (length-numbered 1 l)) (λ i g. let j : i < length l = omega arith in each i j ∙ sym (get_d_numbered l i d e j))

-- The stations up to n: of no entry, and of one more.
module _ {A : Type 0} (test : ℕ → A → Bool) where
  stations_snoc : (l : List A) (x : A) → all_stations test (l ++ (x ∷ [])) ≡ (all_stations test l && test (suc (length l)) x)
  unfolding all_stations numbered
  stations_snoc l x =
      let n : suc (length l) ≡ 1 + length l = omega arith in
      rw (numbered-append test 1 l (x ∷ []), n) (all_more (λ b. b) (numbered test 1 l) (test (1 + length l) x))

  pub stations_none : (n : ℕ) → true ≡ all_stations test (take n [])
  unfolding all_stations numbered all
  stations_none n = rw (take-nil {A = A} n)

  pub stations_more : (d : A) (n : ℕ) (l : List A) (k : ℕ) → k < length l → all_stations test (take n (take (k + 1) l)) ≡ (all_stations test (take n (take k l)) && (leb n k || test (suc k) (get_or l k d)))
  stations_more d n l k h =
      either (λ b. all_stations test (take n (take (k + 1) l)) ≡ (all_stations test (take n (take k l)) && (b || test (suc k) (get_or l k d)))) (leb n k)
      (λ e. rw (unused_same l n k (leb-true n k e)) (sym (and_true (all_stations test (take n (take k l))))))
      (λ e.
      let high : k < n = leb-false n k e in
      rw (used_more d l n k h high, used_same l n k h high) (stations_snoc (take k l) (get_or l k d) ∙ rw (length-take-le k l (omega arith))))

-- The largest, and the sum of those before the last in use.
pub total_none : (n : ℕ) → 0 ≡ total (take n [])
unfolding total
total_none n = rw (take-nil {A = ℕ} n)

largest_snoc : (a : List ℕ) (x : ℕ) → largest (a ++ (x ∷ [])) ≡ max (largest a) x
unfolding largest
largest_snoc [] x = omega arith
largest_snoc (y ∷ a) x = omega (arith, largest_snoc a x)

pub total_snoc : (a : List ℕ) (x : ℕ) → total (a ++ (x ∷ [])) ≡ total a + x
unfolding total
total_snoc [] x = omega arith
total_snoc (y ∷ a) x = omega (arith, total_snoc a x)

-- The first entries come to no more than all of them.
pub total_take : (k : ℕ) (l : List ℕ) → total (take k l) ≤ total l
unfolding total
total_take zero l = omega arith
total_take (suc k) [] = omega arith
total_take (suc k) (x ∷ l) = omega (arith, total_take k l)

-- Of a list by its entries: one more.
pub total_upward : (n : ℕ) (f : ℕ → ℕ) → total (upward 0 (n + 1) f) ≡ total (upward 0 n f) + f n
total_upward n f = rw (upward-more n f) (total_snoc (upward 0 n f) (f n))

module _ (l : List ℕ) (k : ℕ) (h : k < length l) where
  pub largest_more : largest (take (k + 1) l) ≡ max (largest (take k l)) (get_or l k 0)
  largest_more = rw (add-one, take-suc l k 0 h) (largest_snoc (take k l) (get_or l k 0))

  pub total_next : total (take (k + 1) l) ≡ total (take k l) + get_or l k 0
  total_next = rw (add-one, take-suc l k 0 h) (total_snoc (take k l) (get_or l k 0))

  pub total_first : (n : ℕ) → total (take n (take (k + 1) l)) ≡ total (take n (take k l)) + cond (ltb k n) (get_or l k 0) 0
  total_first n =
      either (λ b. total (take n (take (k + 1) l)) ≡ total (take n (take k l)) + cond b (get_or l k 0) 0) (ltb k n)
      (λ e.
      let low : k < n = ltb-true k n e in
      rw (used_more 0 l n k h low, used_same l n k h low) (total_snoc (take k l) (get_or l k 0)))
      (λ e. rw (unused_same l n k (ltb-false k n e)) (omega arith))

  before : (n : ℕ) → ltb k (n - 1) ≡ ltb (k + 1) n
  before n =
      either (λ b. ltb k (n - 1) ≡ b) (ltb (k + 1) n)
      (λ e. lt-ltb k (n - 1) (omega (arith, ltb-true (k + 1) n e)))
      (λ e. le-ltb k (n - 1) (omega (arith, ltb-false (k + 1) n e)))

  pub total_before : (n : ℕ) → total (take (n - 1) (take k l)) + cond (ltb (k + 1) n) (get_or l k 0) 0 ≡ total (take (n - 1) (take (k + 1) l))
  total_before n = sym (total_first (n - 1) ∙ rw (before n))

-- Inside two bounds is not outside of them.
least_not : (a b : ℕ) → leb a b ≡ not (ltb b a)
least_not a b = either (λ t. leb a b ≡ not t) (ltb b a) (λ e. lt-leb a b (ltb-true b a e)) (λ e. le-leb a b (ltb-false b a e))

neither : (x y : Bool) → (not x && not y) ≡ not (x || y)
neither true y = refl
neither false y = refl

pub inside : (low high n : ℕ) {outside : Bool} → (ltb n low || ltb high n) ≡ outside → within low high n ≡ not outside
inside low high n e = rw (least_not low n, least_not n high) (neither (ltb n low) (ltb high n) ∙ ap not e)

-- The largest entry is at most x where every entry is.
pub largest_under : (l : List ℕ) (x : ℕ) → ((i : ℕ) → get_or l i 0 ≤ x) → largest l ≤ x
unfolding largest
largest_under [] x each = omega arith
largest_under (y ∷ l) x each = omega (arith, each 0, largest_under l x (λ i. each (suc i)))

-- The entries that pass a test, of two lists one after the other.
pub only-append : {A : Type 0} (test : A → Bool) (l m : List A) → only test (l ++ m) ≡ only test l ++ only test m
unfolding only
only-append test [] m = refl
only-append test (x ∷ l) m =
    either (λ b. cond b (x ∷ only test (l ++ m)) (only test (l ++ m)) ≡ cond b (x ∷ only test l) (only test l) ++ only test m) (test x)
    (λ e. ap (λ t. x ∷ t) (only-append test l m))
    (λ e. only-append test l m)

-- The test of two lists of numbers says that they are equal.
pub same_is : (l m : List ℕ) → same l m ≡ true → l ≡ m
unfolding same
same_is [] [] e = refl
same_is [] (y ∷ m) e = absurd (true≢false (sym e))
same_is (x ∷ l) [] e = absurd (true≢false (sym e))
same_is (x ∷ l) (y ∷ m) e =
    let t = and_both (eqb x y) (same l m) e in
    ap₂ (λ (z : ℕ) (n : List ℕ). z ∷ n) (eqb-true x y t.0) (same_is l m t.1)
