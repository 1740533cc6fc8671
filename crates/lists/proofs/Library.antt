-- The words of document 01 on lists are the library's, which the contracts of its iterators say: so a chain of iterators meets a contract in our words by
-- one of these laws, as in `rw all_list (search rules)`.
use mathlib.Core.Path.{◌≡◌, refl, sym, ap, ◌∙◌}
use mathlib.Core.Bool.{Bool}
use mathlib.Core.List.{List, [], ◌∷◌, map}
use Prim.Native.Nat.{ℕ, zero, suc, ◌+◌, max}
use native.Mathlib.Numerals.{add-one}
use native.Mathlib.Omega.{arith}
use lib.Dec.{eqb}
use lib.ListN.{length}
use borrow.Author.Tests.{eqb-true, eqb-false, eq-eqb, ne_eqb}
use Rattle.std.specs.List.{list_all, list_any, fold, sum, sum_by, count_by, filter, reduce, range_with_len, enumerate_from}
use Rattle.std.specs.Option.{unwrap_or}
use Rattle.std.specs.Ordering.{max_by_ordering, nat_cmp}
use Rattle.std.proofs.lemmas.List.{map-id}
use Rattle.std.proofs.lemmas.List.Folds.{max_of_map}
use Rattle.std.proofs.lemmas.List.Sums.{sum_by-cons, length-filter}
use Rattle.lists.proofs.Tests.{either}
use Rattle.model.specs.Lists.{total, largest, all, any, has, only, numbered, upward}

-- ---- tests of all entries, and of some
pub all_list : {A : Type 0} (test : A → Bool) (l : List A) → all test l ≡ list_all test l
unfolding all
all_list test [] = refl
all_list test (x ∷ l) = rw (all_list test l)

pub any_list : {A : Type 0} (test : A → Bool) (l : List A) → any test l ≡ list_any test l
unfolding any
any_list test [] = refl
any_list test (x ∷ l) = rw (any_list test l)

pub eqb_comm : (x y : ℕ) → eqb x y ≡ eqb y x
eqb_comm x y =
    either (λ b. eqb x y ≡ b) (eqb y x)
    (λ e. eq-eqb x y (sym (eqb-true y x e)))
    (λ e. ne_eqb x y (λ q. eqb-false y x e (sym q)))

pub has_list : (l : List ℕ) (x : ℕ) → has l x ≡ list_any (λ y. eqb y x) l
unfolding has any
has_list [] x = refl
has_list (y ∷ l) x = rw (eqb_comm x y, has_list l x)

pub only_list : {A : Type 0} (test : A → Bool) (l : List A) → only test l ≡ filter test l
unfolding only
only_list test [] = refl
only_list test (x ∷ l) = rw (only_list test l)

pub length_only : {A : Type 0} (test : A → Bool) (l : List A) → length (only test l) ≡ count_by test l
length_only test l = rw (only_list test l) (length-filter test l)

-- ---- sums
pub total_sum : (l : List ℕ) → total l ≡ sum l
unfolding total
total_sum [] = refl
total_sum (x ∷ l) = ap (λ (n : ℕ). x + n) (total_sum l) ∙ sym (sum_by-cons (λ y. y) x l)

pub total_sum_by : {A : Type 0} (f : A → ℕ) (l : List A) → total (map f l) ≡ sum_by f l
unfolding total
total_sum_by f [] = refl
total_sum_by f (x ∷ l) = rw (total_sum_by f l) (sym (sum_by-cons f x l))

-- ---- the largest entry, and 0 of none
folded : {A : Type 0} (f : A → ℕ) (n : ℕ) (l : List A) → fold (λ a x. max a (f x)) n l ≡ max n (largest (map f l))
unfolding largest
folded f n [] = omega arith
folded f n (x ∷ l) = omega (arith, folded f (max n (f x)) l)

pub largest_fold_by : {A : Type 0} (f : A → ℕ) (l : List A) → largest (map f l) ≡ fold (λ a x. max a (f x)) 0 l
largest_fold_by f l = omega (arith, folded f 0 l)

pub largest_fold : (l : List ℕ) → largest l ≡ fold (λ a x. max a x) 0 l
largest_fold l = ap largest (sym (map-id l)) ∙ largest_fold_by (λ x. x) l

pub largest_max_by : {A : Type 0} (f : A → ℕ) (l : List A) → largest (map f l) ≡ unwrap_or (reduce (λ p z. max_by_ordering (nat_cmp p z) p z) (map f l)) 0
largest_max_by f l = largest_fold_by f l ∙ sym (max_of_map f l)

pub largest_max : (l : List ℕ) → largest l ≡ unwrap_or (reduce (λ p z. max_by_ordering (nat_cmp p z) p z) l) 0
largest_max l = rw (map-id l) at (largest_max_by (λ x. x) l)

-- ---- lists by their entries, and entries with their numbers
pub upward_range : {A : Type 0} (f : ℕ → A) (k n : ℕ) → upward k n f ≡ map f (range_with_len k n)
unfolding upward
upward_range f k zero = refl
upward_range f k (suc n) = rw add-one (ap (λ l. f k ∷ l) (upward_range f (suc k) n))

pub numbered_enumerate : {A B : Type 0} (f : ℕ → A → B) (k : ℕ) (l : List A) → numbered f k l ≡ map (λ p. f p.0 p.1) (enumerate_from k l)
unfolding numbered
numbered_enumerate f k [] = refl
numbered_enumerate f k (x ∷ l) = rw add-one (ap (λ m. f k x ∷ m) (numbered_enumerate f (suc k) l))
