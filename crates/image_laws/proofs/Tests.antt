-- What a test says: it passes where its fact holds, and only there. One law for each way of putting tests together, so that a test's fact is read both ways.
use mathlib.Core.Path.{◌≡◌, refl, sym, ap, ◌∙◌}
use mathlib.Core.Logic.{◌⊎◌, inl, inr}
use mathlib.Core.Bool.{Bool, true, false, ◌&&◌, ◌||◌, true≢false}
use mathlib.Core.List.Memᴰ
use mathlib.Core.List.{List, [], ◌∷◌, ◌++◌, map}
use Prim.Native.Nat.{ℕ, zero, suc, ◌+◌, ◌-◌, ◌≤◌, ◌<◌}
use native.Mathlib.Nat.{add-zero, le_of_suc-le-suc, not-suc-le-zero}
use native.Mathlib.Omega.{arith}
use lib.ListN.{length, get_or, take, drop}
use lib.Seq.{get_or-take, get_or-drop, length-take-le}
use lib.Dec.{leb, ltb, eqb}
use borrow.Author.Tests.{leb-true, le-leb, ltb-true, lt-ltb, eqb-true, eq-eqb}
use Rattle.model.specs.Lists.{at, within, concat, all, any, numbered, all_stations, upward}
use Rattle.schedule.specs.Valid.{◌∈◌}
use Rattle.schedule.proofs.Laws.{and_both, all_member}

pub record Says (b : Bool) (P : Type 0) : Type 0 where
  pub tells : b ≡ true → P
  pub passes : P → b ≡ true

pub leb_says : (a b : ℕ) → Says (leb a b) (a ≤ b)
leb_says a b = record { tells = leb-true a b; passes = le-leb a b }

pub ltb_says : (a b : ℕ) → Says (ltb a b) (a < b)
ltb_says a b = record { tells = ltb-true a b; passes = lt-ltb a b }

pub eqb_says : (a b : ℕ) → Says (eqb a b) (a ≡ b)
eqb_says a b = record { tells = eqb-true a b; passes = eq-eqb a b }

-- The same fact in other words.
pub in_words : {b : Bool} {P Q : Type 0} → Says b P → (P → Q) → (Q → P) → Says b Q
in_words p to from = record { tells = λ e. to (p.tells e); passes = λ f. p.passes (from f) }

pub both_true : {a b : Bool} → a ≡ true → b ≡ true → (a && b) ≡ true
both_true p q = rw (p, q)

pub and_says : {a b : Bool} {P Q : Type 0} → Says a P → Says b Q → Says (a && b) (P × Q)
and_says {a} {b} p q =
    record { tells = λ e. let t = and_both a b e in (p.tells t.0, q.tells t.1); passes = λ f. both_true (p.passes f.0) (q.passes f.1) }

pub or_says : {a b : Bool} {P Q : Type 0} → Says a P → Says b Q → Says (a || b) (P ⊎ Q)
or_says {a} {b} {P} {Q} p q = record { tells = either a b p q; passes = λ f. elim f [ inl h ↦ rw (p.passes h) | inr h ↦ second a b (q.passes h) ] }
  where
    either : (a b : Bool) → Says a P → Says b Q → (a || b) ≡ true → P ⊎ Q
    either true b p q e = inl (p.tells refl)
    either false b p q e = inr (q.tells e)

    second : (a b : Bool) → b ≡ true → (a || b) ≡ true
    second true b e = refl
    second false b e = e

pub within_says : (low high x : ℕ) → Says (within low high x) ((low ≤ x) × (x ≤ high))
within_says low high x = and_says (leb_says low x) (leb_says x high)

-- A fact of every place: of the first, and of those after it.
each_place : (Q : ℕ → Type 0) → Q 0 → ((i : ℕ) → Q (suc i)) → (i : ℕ) → Q i
each_place Q first later zero = first
each_place Q first later (suc i) = later i

each_below : (Q : ℕ → Type 0) {n : ℕ} → Q 0 → ((i : ℕ) → i < n → Q (suc i)) → (i : ℕ) → i < suc n → Q i
each_below Q first later zero h = first
each_below Q first later (suc i) h = later i (le_of_suc-le-suc h)

module _ {A : Type 0} (test : A → Bool) where
  pub all_true : (l : List A) → ((a : A) → a ∈ l → test a ≡ true) → all test l ≡ true
  unfolding all
  all_true [] each = refl
  all_true (x ∷ l) each = both_true (each x (Memᴰ.head refl)) (all_true l (λ a m. each a (Memᴰ.tail m)))

  pub members_say : {P : A → Type 0} (l : List A) → ((a : A) → a ∈ l → Says (test a) (P a)) → Says (all test l) ((a : A) → a ∈ l → P a)
  members_say l says = record { tells = λ e a m. (says a m).tells (all_member test l e m); passes = λ f. all_true l (λ a m. (says a m).passes (f a m)) }

  pub all_map : {B : Type 0} (f : B → A) (l : List B) → all test (map f l) ≡ all (λ b. test (f b)) l
  unfolding all
  all_map f [] = refl
  all_map f (x ∷ l) = rw (all_map f l)

  -- Of lists end to end.
  pub append_says : (l m : List A) → Says (all test (l ++ m)) ((all test l ≡ true) × (all test m ≡ true))
  unfolding all
  append_says [] m = record { tells = λ e. (refl, e); passes = λ f. f.1 }
  append_says (x ∷ l) m =
      record {
        tells = λ e. let t = and_both (test x) (all test (l ++ m)) e in let r = (append_says l m).tells t.1 in (both_true t.0 r.0, r.1);
        passes = λ f. let t = and_both (test x) (all test l) f.0 in both_true t.0 ((append_says l m).passes (t.1, f.1));
      }

  rows_from : (k n : ℕ) (f : ℕ → List A) → Says (all test (concat (upward k n f))) ((i : ℕ) → i < n → all test (f (k + i)) ≡ true)
  unfolding all concat upward
  rows_from k zero f = record { tells = λ e i h. absurd (not-suc-le-zero h); passes = λ g. refl }
  rows_from k (suc n) f =
      let next : (i : ℕ) → k + suc i ≡ suc k + i = λ i. omega arith in
      in_words (append_says (f k) (concat (upward (suc k) n f)))
      (λ t. each_below (λ i. all test (f (k + i)) ≡ true) (rw (add-zero k) t.0) (λ i h. rw (next i) ((rows_from (suc k) n f).tells t.1 i h)))
      (λ g. (rw (add-zero k) at (g 0 (omega arith)), (rows_from (suc k) n f).passes (λ i h. rw (next i) at (g (suc i) (omega arith)))))

  pub rows_say : (n : ℕ) (f : ℕ → List A) → Says (all test (concat (upward 0 n f))) ((i : ℕ) → i < n → all test (f i) ≡ true)
  rows_say n f = in_words (rows_from 0 n f) (λ g i h. ap (λ j. all test (f j)) (omega arith) ∙ g i h) (λ g i h. ap (λ j. all test (f j)) (omega arith) ∙ g i h)

  module _ (P : A → Type 0) (says : (a : A) → Says (test a) (P a)) where
    pub any_says : (l : List A) → Says (any test l) ((a : A) × (a ∈ l) × P a)
    unfolding any
    any_says [] = record { tells = λ e. absurd (true≢false (sym e)); passes = λ f. absurd (Memᴰ.not-nil f.1) }
    any_says (x ∷ l) = in_words (or_says (says x) (any_says l)) there back
      where
        there : P x ⊎ ((a : A) × (a ∈ l) × P a) → (a : A) × (a ∈ (x ∷ l)) × P a
        there (inl p) = (x, Memᴰ.head refl, p)
        there (inr f) = (f.0, Memᴰ.tail f.1, f.2)

        back : (a : A) × (a ∈ (x ∷ l)) × P a → P x ⊎ ((a : A) × (a ∈ l) × P a)
        back f = elim (Memᴰ.cases_cons f.1) [ inl e ↦ inl (rw e at f.2) | inr m ↦ inr (f.0, m, f.2) ]

    -- By the entries, where what stands past the end passes.
    pub entries_say : (d : A) → P d → (l : List A) → Says (all test l) ((i : ℕ) → P (get_or l i d))
    unfolding all
    entries_say d p [] = record { tells = λ e i. p; passes = λ f. refl }
    entries_say d p (x ∷ l) = in_words (and_says (says x) (entries_say d p l)) (λ t. each_place (λ i. P (get_or (x ∷ l) i d)) t.0 t.1) (λ g. (g 0, λ i. g (suc i)))

    -- From station n + 1 on.
    pub beyond_says : (d : A) → P d → (n : ℕ) (l : List A) → Says (all test (drop n l)) ((k : ℕ) → n < k → P (at d l k))
    beyond_says d p n l = in_words (entries_say d p (drop n l)) there (λ g i. rw (get_or-drop n l i d) (g (suc (n + i)) (omega arith)))
      where
        there : ((i : ℕ) → P (get_or (drop n l) i d)) → (k : ℕ) → n < k → P (at d l k)
        there g zero h = absurd (not-suc-le-zero h)
        there g (suc j) h =
            let e : n + (j - n) ≡ j = omega arith in
            rw (get_or-drop n l (j - n) d, e) at (g (j - n))

-- The entries of stations 1 to n, each with its station.
module _ {A : Type 0} (test : ℕ → A → Bool) (P : ℕ → A → Type 0) (says : (k : ℕ) (a : A) → Says (test k a) (P k a)) (d : A) where
  numbered_says : (k : ℕ) (l : List A) → Says (all (λ b. b) (numbered test k l)) ((i : ℕ) → i < length l → P (k + i) (get_or l i d))
  unfolding all numbered
  numbered_says k [] = record { tells = λ e i h. absurd (not-suc-le-zero h); passes = λ f. refl }
  numbered_says k (x ∷ l) =
      let next : (i : ℕ) → k + suc i ≡ suc k + i = λ i. omega arith in
      in_words (and_says (says k x) (numbered_says (suc k) l))
      (λ t. each_below (λ i. P (k + i) (get_or (x ∷ l) i d)) (rw (add-zero k) t.0) (λ i h. rw (next i) (t.1 i h)))
      (λ g. (rw (add-zero k) at (g 0 (omega arith)), λ i h. rw (next i) at (g (suc i) (omega arith))))

  pub stations_say : (n : ℕ) (l : List A) → n ≤ length l → Says (all_stations test (take n l)) ((k : ℕ) → 1 ≤ k → k ≤ n → P k (at d l k))
  unfolding all_stations
  stations_say n l h = in_words (numbered_says 1 (take n l)) there back
    where
      long : length (take n l) ≡ n
      long = length-take-le n l h

      one : (i : ℕ) → 1 + i ≡ suc i
      one i = omega arith

      there : ((i : ℕ) → i < length (take n l) → P (1 + i) (get_or (take n l) i d)) → (k : ℕ) → 1 ≤ k → k ≤ n → P k (at d l k)
      there g zero low high = absurd (not-suc-le-zero low)
      there g (suc i) low high = rw (one i, get_or-take n l i d high) at (g i (rw long high))

      back : ((k : ℕ) → 1 ≤ k → k ≤ n → P k (at d l k)) → (i : ℕ) → i < length (take n l) → P (1 + i) (get_or (take n l) i d)
      back g i h = let high : i < n = rw long at h in rw (one i, get_or-take n l i d high) (g (suc i) (omega arith) high)

-- The same for a test that does not look at the station.
module _ {A : Type 0} (test : A → Bool) (P : A → Type 0) (says : (a : A) → Says (test a) (P a)) (d : A) where
  unnumbered : (k : ℕ) (l : List A) → all test l ≡ all (λ b. b) (numbered (λ k. test) k l)
  unfolding all numbered
  unnumbered k [] = refl
  unnumbered k (x ∷ l) = rw (unnumbered (suc k) l)

  pub first_say : (n : ℕ) (l : List A) → n ≤ length l → Says (all test (take n l)) ((k : ℕ) → 1 ≤ k → k ≤ n → P (at d l k))
  unfolding all_stations
  first_say n l h = rw (unnumbered 1 (take n l)) (stations_say (λ k. test) (λ k. P) (λ k. says) d n l h)
