-- The larger entries of two rows, and sums and maxima of a list of members with one more at its end.
use mathlib.Core.Path.{◌≡◌, refl, sym, ap, ◌∙◌}
use mathlib.Core.List.{List, [], ◌∷◌, ◌++◌}
use Prim.Native.Nat.{ℕ, zero, suc, ◌+◌, ◌<◌, max}
use native.Mathlib.Numerals.{add-one}
use native.Mathlib.Omega.{arith}
use lib.ListN.{length, get_or, set, take}
use Rattle.model.specs.Lists.{at, total, largest, larger, upward}
use Rattle.model.specs.DelayBound.{sum_of, maxima_of}
use Rattle.lists.proofs.Fills.{upward-more, upward-same, upward_list}

get_d_larger : (xs ys : List ℕ) (i : ℕ) → get_or (larger xs ys) i 0 ≡ max (get_or xs i 0) (get_or ys i 0)
unfolding larger
get_d_larger [] ys i = omega arith
get_d_larger (x ∷ xs) [] zero = omega arith
get_d_larger (x ∷ xs) [] (suc i) = omega arith
get_d_larger (x ∷ xs) (y ∷ ys) zero = refl
get_d_larger (x ∷ xs) (y ∷ ys) (suc i) = get_d_larger xs ys i

pub at-larger : (xs ys : List ℕ) (k : ℕ) → at 0 (larger xs ys) k ≡ max (at 0 xs k) (at 0 ys k)
at-larger xs ys zero = omega arith
at-larger xs ys (suc i) = get_d_larger xs ys i

pub length-larger : (xs ys : List ℕ) → length (larger xs ys) ≡ max (length xs) (length ys)
unfolding larger
length-larger [] ys = omega arith
length-larger (x ∷ xs) [] = omega arith
length-larger (x ∷ xs) (y ∷ ys) = omega (arith, length-larger xs ys)

-- Rows of one length, place by place.
pub larger_places : (n : ℕ) (xs ys : List ℕ) → length xs ≡ n → length ys ≡ n → upward 0 n (λ k. max (get_or xs k 0) (get_or ys k 0)) ≡ larger xs ys
larger_places n xs ys p q =
    upward-same n (λ k. max (get_or xs k 0) (get_or ys k 0)) (λ k. get_or (larger xs ys) k 0) (λ k h. sym (get_d_larger xs ys k))
    ∙ upward_list 0 (larger xs ys) n (omega (arith, length-larger xs ys, p, q))

-- The entries so far of one row against those of another, in place.
pub larger_next : (xs ys : List ℕ) (k : ℕ) → k < length xs → k < length ys → set (larger (take k xs) ys) k (max (get_or xs k 0) (get_or ys k 0)) ≡ larger (take (k + 1) xs) ys
unfolding larger
larger_next xs ys k p q = rw (add-one k) (go xs ys k p q)
  where
    go : (xs ys : List ℕ) (k : ℕ) → k < length xs → k < length ys → set (larger (take k xs) ys) k (max (get_or xs k 0) (get_or ys k 0)) ≡ larger (take (suc k) xs) ys
    go [] ys k p q = absurd (let z : ⊥ = omega arith in z)
    go (x ∷ xs) [] k p q = absurd (let z : ⊥ = omega arith in z)
    go (x ∷ xs) (y ∷ ys) zero p q = refl
    go (x ∷ xs) (y ∷ ys) (suc k) p q = ap (λ (l : List ℕ). max x y ∷ l) (go xs ys k (omega arith) (omega arith))

larger_comm : (xs ys : List ℕ) → larger xs ys ≡ larger ys xs
unfolding larger
larger_comm [] [] = refl
larger_comm [] (y ∷ ys) = refl
larger_comm (x ∷ xs) [] = refl
larger_comm (x ∷ xs) (y ∷ ys) = let e : max x y ≡ max y x = omega arith in rw (e, larger_comm xs ys)

pub larger_left_comm : (xs ys zs : List ℕ) → larger xs (larger ys zs) ≡ larger ys (larger xs zs)
unfolding larger
larger_left_comm [] ys zs = refl
larger_left_comm (x ∷ xs) [] zs = refl
larger_left_comm (x ∷ xs) (y ∷ ys) [] = larger_comm (x ∷ xs) (y ∷ ys)
larger_left_comm (x ∷ xs) (y ∷ ys) (z ∷ zs) = let e : max x (max y z) ≡ max y (max x z) = omega arith in rw (e, larger_left_comm xs ys zs)

pub maxima_of_last : (l : List (List ℕ)) (c : List ℕ) → maxima_of (l ++ (c ∷ [])) ≡ larger c (maxima_of l)
unfolding maxima_of
maxima_of_last [] c = refl
maxima_of_last (x ∷ xs) c = ap (larger x) (maxima_of_last xs c) ∙ larger_left_comm x c (maxima_of xs)

pub sum_of_last : (l : List (List ℕ)) (c : List ℕ) → sum_of (l ++ (c ∷ [])) ≡ largest c + sum_of l
unfolding sum_of total
sum_of_last [] c = refl
sum_of_last (x ∷ xs) c = omega (arith, sum_of_last xs c)

-- An arrival's costs, and those of the first i members beside it.
module _ (costs : List ℕ) (f : ℕ → List ℕ) where
  pub sum_start : largest costs ≡ sum_of (costs ∷ upward 0 0 f)
  unfolding sum_of total upward
  sum_start = omega arith

  pub maxima_start : costs ≡ maxima_of (costs ∷ upward 0 0 f)
  unfolding maxima_of upward larger
  maxima_start = larger_comm [] costs

  pub sum_more : (i : ℕ) → sum_of (costs ∷ upward 0 (i + 1) f) ≡ largest (f i) + sum_of (costs ∷ upward 0 i f)
  sum_more i = rw (upward-more i f) (sum_of_last (costs ∷ upward 0 i f) (f i))

  pub maxima_more : (i : ℕ) → maxima_of (costs ∷ upward 0 (i + 1) f) ≡ larger (f i) (maxima_of (costs ∷ upward 0 i f))
  maxima_more i = rw (upward-more i f) (maxima_of_last (costs ∷ upward 0 i f) (f i))
