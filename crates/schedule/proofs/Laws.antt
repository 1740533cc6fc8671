-- Laws of the model's words about lists and tests. Every crate above cites them from here.
use mathlib.Core.Path.{◌≡◌, refl, sym, ap, ◌∙◌}
use mathlib.Core.Logic.{◌⊎◌, inl, inr}
use mathlib.Core.Bool.{Bool, true, false, cond, true≢false}
use mathlib.Core.List.Memᴰ
use mathlib.Core.List.{List, [], ◌∷◌, ◌++◌, map}
use Prim.Native.Nat.{ℕ, zero, suc, ◌+◌, ◌≤◌, ◌<◌}
use native.Mathlib.Nat.{le_of_suc-le-suc, not-suc-le-zero}
use native.Mathlib.Omega.{arith}
use lib.ListN.{length, get_or, replicate, get_or-eq_default}
use lib.Dec.{leb, eqb}
use borrow.Author.Tests.{leb-true, leb-false, eqb-true, eqb-false}
use Rattle.model.specs.declared.Order.{Order}
use Rattle.model.specs.declared.Service.{Service}
use Rattle.model.specs.Lists.{at, largest, all, only, numbered}
pub use Rattle.lists.proofs.Tests.{and_both, length-numbered}
pub use Rattle.lists.proofs.Maxima.{at-larger}
use Rattle.schedule.specs.Valid.{◌∈◌, RisingBy, Rising}

-- ---- tests: each answer with the fact that it tells
abbrev pub LeCase : ℕ → ℕ → Type 0
LeCase m n = ((leb m n ≡ true) × (m ≤ n)) ⊎ ((leb m n ≡ false) × (n < m))

pub leb_cases : (m n : ℕ) → LeCase m n
leb_cases m n = go (leb m n) refl
  where
    go : (b : Bool) → leb m n ≡ b → LeCase m n
    go true e = inl (e, leb-true m n e)
    go false e = inr (e, leb-false m n e)

abbrev pub EqCase : ℕ → ℕ → Type 0
EqCase m n = ((eqb m n ≡ true) × (m ≡ n)) ⊎ ((eqb m n ≡ false) × (m ≡ n → ⊥))

pub eqb_cases : (m n : ℕ) → EqCase m n
eqb_cases m n = go (eqb m n) refl
  where
    go : (b : Bool) → eqb m n ≡ b → EqCase m n
    go true e = inl (e, eqb-true m n e)
    go false e = inr (e, eqb-false m n e)

pub test : (b : Bool) → (b ≡ true) ⊎ (b ≡ false)
test true = inl refl
test false = inr refl

pub by_cond : {A : Type 0} (P : A → Type 0) (b : Bool) {x y : A} → P x → P y → P (cond b x y)
by_cond P true p q = p
by_cond P false p q = q

pub all_member : {A : Type 0} (p : A → Bool) (l : List A) → all p l ≡ true → {a : A} → a ∈ l → p a ≡ true
unfolding all
all_member p [] e m = absurd (Memᴰ.not-nil m)
all_member p (x ∷ xs) e {a} m =
    let t = and_both (p x) (all p xs) e in
    elim (Memᴰ.cases_cons m) [ inl q ↦ ap p q ∙ t.0 | inr q ↦ all_member p xs t.1 q ]

-- ---- the entry of a station
pub same_ticket : {v w : Service} → v ≡ w → v.ticket ≡ w.ticket
same_ticket e = ap (λ (v : Service). v.ticket) e

pub same_left : {v w : Service} → v ≡ w → v.left ≡ w.left
same_left e = ap (λ (v : Service). v.left) e

pub at_map : {A : Type 0} (f : A → A) (d : A) → f d ≡ d → (l : List A) (k : ℕ) → at d (map f l) k ≡ f (at d l k)
at_map f d e l zero = sym e
at_map f d e l (suc i) = go l i
  where
    go : (l : List _) (i : ℕ) → get_or (map f l) i d ≡ f (get_or l i d)
    go [] i = sym e
    go (x ∷ xs) zero = refl
    go (x ∷ xs) (suc i) = go xs i

pub at-beyond : {A : Type 0} (d : A) (l : List A) (k : ℕ) → length l < k → at d l k ≡ d
at-beyond d l k h = get_or-eq_default (d ∷ l) d h

pub at-replicate : {A : Type 0} (n : ℕ) (d : A) (k : ℕ) → at d (replicate n d) k ≡ d
at-replicate n d zero = refl
at-replicate zero d (suc k) = refl
at-replicate (suc n) d (suc k) = at-replicate n d k

get_d_numbered : {A B : Type 0} (f : ℕ → A → B) (k : ℕ) (l : List A) (d : A) (e : B) (i : ℕ) → i < length l → get_or (numbered f k l) i e ≡ f (k + i) (get_or l i d)
unfolding numbered
get_d_numbered f k [] d e i h = absurd (not-suc-le-zero h)
get_d_numbered f k (x ∷ xs) d e zero h = ap (λ m. f m x) (omega arith)
get_d_numbered f k (x ∷ xs) d e (suc i) h = get_d_numbered f (suc k) xs d e i (le_of_suc-le-suc h) ∙ ap (λ m. f m (get_or xs i d)) (omega arith)

pub at-numbered : {A : Type 0} (f : ℕ → A → A) (l : List A) (d : A) (k : ℕ) → 1 ≤ k → k ≤ length l → at d (numbered f 1 l) k ≡ f k (at d l k)
at-numbered f l d zero low high = absurd (not-suc-le-zero low)
at-numbered f l d (suc i) low high = get_d_numbered f 1 l d d i high ∙ ap (λ m. f m (get_or l i d)) (omega arith)

-- ---- largest costs
get_d_largest : (l : List ℕ) (i : ℕ) → get_or l i 0 ≤ largest l
unfolding largest
get_d_largest [] i = omega arith
get_d_largest (x ∷ xs) zero = omega arith
get_d_largest (x ∷ xs) (suc i) = omega (arith, get_d_largest xs i)

pub at-largest : (l : List ℕ) (k : ℕ) → at 0 l k ≤ largest l
at-largest l zero = omega arith
at-largest l (suc i) = get_d_largest l i

-- ---- the entries that pass a test
module _ {A : Type 0} (p : A → Bool) where
  pub only_yes : (x : A) (xs : List A) → p x ≡ true → only p (x ∷ xs) ≡ x ∷ only p xs
  unfolding only
  only_yes x xs e = rw e

  pub only_no : (x : A) (xs : List A) → p x ≡ false → only p (x ∷ xs) ≡ only p xs
  unfolding only
  only_no x xs e = rw e

  pub only_in : {a : A} (l : List A) → a ∈ only p l → (a ∈ l) × (p a ≡ true)
  unfolding only
  only_in [] m = absurd (Memᴰ.not-nil m)
  only_in {a} (x ∷ xs) m = go (λ q. only_in xs q) (test (p x))
    where
      go : (a ∈ only p xs → (a ∈ xs) × (p a ≡ true)) → (p x ≡ true) ⊎ (p x ≡ false) → (a ∈ (x ∷ xs)) × (p a ≡ true)
      go ih (inl e) = elim (Memᴰ.cases_cons (rw (only_yes x xs e) at m)) [ inl q ↦ (Memᴰ.head q, ap p q ∙ e) | inr q ↦ (Memᴰ.tail (ih q).0, (ih q).1) ]
      go ih (inr e) = let q : a ∈ only p xs = rw (only_no x xs e) at m in (Memᴰ.tail (ih q).0, (ih q).1)

  pub in_only : {a : A} (l : List A) → a ∈ l → p a ≡ true → a ∈ only p l
  unfolding only
  in_only [] m e = absurd (Memᴰ.not-nil m)
  in_only {a} (x ∷ xs) m e = go (λ q. in_only xs q e) (Memᴰ.cases_cons m) (test (p x))
    where
      go : (a ∈ xs → a ∈ only p xs) → (a ≡ x) ⊎ (a ∈ xs) → (p x ≡ true) ⊎ (p x ≡ false) → a ∈ only p (x ∷ xs)
      go ih (inl q) (inl t) = rw (only_yes x xs t) (Memᴰ.head q)
      go ih (inl q) (inr t) = absurd (true≢false (sym e ∙ ap p q ∙ t))
      go ih (inr q) (inl t) = rw (only_yes x xs t) (Memᴰ.tail (ih q))
      go ih (inr q) (inr t) = rw (only_no x xs t) (ih q)

-- ---- rising figures
module _ {A : Type 0} (key : A → ℕ) where
  pub unique_by : (l : List A) → RisingBy key l → {a b : A} → a ∈ l → b ∈ l → key a ≡ key b → a ≡ b
  unique_by [] r m q e = absurd (Memᴰ.not-nil m)
  unique_by (x ∷ xs) r {a} {b} m q e = go (λ y z w. unique_by xs r.1 y z w) (Memᴰ.cases_cons m) (Memᴰ.cases_cons q)
    where
      go : (a ∈ xs → b ∈ xs → key a ≡ key b → a ≡ b) → (a ≡ x) ⊎ (a ∈ xs) → (b ≡ x) ⊎ (b ∈ xs) → a ≡ b
      go ih (inl p) (inl t) = p ∙ sym t
      go ih (inl p) (inr t) = absurd (omega (arith, r.0 b t, ap key p))
      go ih (inr p) (inl t) = absurd (omega (arith, r.0 a p, ap key t))
      go ih (inr p) (inr t) = ih p t e

  pub rising_map : (f : A → A) → ((a : A) → key (f a) ≡ key a) → (l : List A) → RisingBy key l → RisingBy key (map f l)
  rising_map f h [] r = tt
  rising_map f h (x ∷ xs) r = (λ p m. go p (Memᴰ.of_map f xs m), rising_map f h xs r.1)
    where
      go : (p : A) → (a : A) × (a ∈ xs) × (f a ≡ p) → key (f x) < key p
      go p w = omega (arith, h x, h w.0, ap key w.2, r.0 w.0 w.1)

  pub rising_only : (p : A → Bool) (l : List A) → RisingBy key l → RisingBy key (only p l)
  unfolding only
  rising_only p [] r = tt
  rising_only p (x ∷ xs) r = go (rising_only p xs r.1) (test (p x))
    where
      go : RisingBy key (only p xs) → (p x ≡ true) ⊎ (p x ≡ false) → RisingBy key (only p (x ∷ xs))
      go ih (inl e) = rw e (λ q m. r.0 q (only_in p xs m).0, ih)
      go ih (inr e) = rw e ih

  pub rising_append : (l : List A) (new : A) → RisingBy key l → ((a : A) → a ∈ l → key a < key new) → RisingBy key (l ++ (new ∷ []))
  rising_append [] new r h = (λ p m. absurd (Memᴰ.not-nil m), tt)
  rising_append (x ∷ xs) new r h = (λ p m. go p (Memᴰ.append_cases xs m), rising_append xs new r.1 (λ p m. h p (Memᴰ.tail m)))
    where
      go : (p : A) → (p ∈ xs) ⊎ (p ∈ (new ∷ [])) → key x < key p
      go p (inl m) = r.0 p m
      go p (inr m) = omega (arith, h x (Memᴰ.head refl), ap key (Memᴰ.eq_of_singleton m))

pub unique : (l : List Order) → Rising l → {a b : Order} → a ∈ l → b ∈ l → a.ticket ≡ b.ticket → a ≡ b
unique = unique_by (λ (o : Order). o.ticket)
