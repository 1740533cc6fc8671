-- How long rows are together of which none is longer than a size. Row k is given by its place, so that one law serves the rows of a list's entries and of its
-- numbered entries.
use mathlib.Core.Path.{◌≡◌, refl, ◌∙◌}
use mathlib.Core.List.{List, [], ◌∷◌, ◌++◌, map}
use Prim.Native.Nat.{ℕ, zero, suc, ◌+◌, ◌*◌, ◌≤◌, ◌<◌}
use native.Mathlib.Nat.{add-zero, mul-suc}
use native.Mathlib.Numerals.{add-one}
use native.Mathlib.Omega.{arith}
use lib.ListN.{length, get_or, take, length-append}
use lib.Seq.{take-suc, length-take-le}
use Rattle.model.specs.Lists.{concat, numbered, upward}
use Rattle.lists.proofs.Fills.{upward-more, concat-append, concat-one}

module _ (row : ℕ → List ℕ) where
  rows_more : (n : ℕ) → concat (upward 0 (n + 1) row) ≡ concat (upward 0 n row) ++ row n
  rows_more n = rw (upward-more n row, concat-append (upward 0 n row) (row n ∷ []), concat-one (row n))

  length_more : (n : ℕ) → length (concat (upward 0 (suc n) row)) ≡ length (concat (upward 0 n row)) + length (row n)
  length_more n = rw (← add-one, rows_more n) (length-append (concat (upward 0 n row)) (row n))

  -- Rows of at most `size` bytes each.
  pub rows_at_most : (size n : ℕ) → ((i : ℕ) → i < n → length (row i) ≤ size) → length (concat (upward 0 n row)) ≤ size * n
  unfolding upward concat
  rows_at_most size zero each = omega arith
  rows_at_most size (suc n) each =
      omega (arith, length_more n, mul-suc size n, each n (omega arith), rows_at_most size n (λ i h. each i (omega arith)))

module _ {A B : Type 0} where
  numbered_none : (f : ℕ → A → B) (l : List A) (row : ℕ → B) → numbered f 1 (take 0 l) ≡ upward 0 0 row
  unfolding numbered upward
  numbered_none f l row = refl

  numbered_last : (f : ℕ → A → B) (k : ℕ) (l : List A) (x : A) → numbered f k (l ++ (x ∷ [])) ≡ numbered f k l ++ (f (k + length l) x ∷ [])
  unfolding numbered
  numbered_last f k [] x = rw (add-zero k)
  numbered_last f k (y ∷ l) x =
      let e : k + suc (length l) ≡ suc k + length l = omega arith in
      rw (e, numbered_last f (suc k) l x)

  pub map-numbered : (f : A → B) (k : ℕ) (l : List A) → map f l ≡ numbered (λ i x. f x) k l
  unfolding numbered
  map-numbered f k [] = refl
  map-numbered f k (x ∷ l) = rw (map-numbered f (suc k) l)

  -- The rows of the first n entries, numbered from 1; and of the first n entries.
  pub numbered-rows : (d : A) (f : ℕ → A → B) (n : ℕ) (l : List A) → n ≤ length l → numbered f 1 (take n l) ≡ upward 0 n (λ i. f (i + 1) (get_or l i d))
  numbered-rows d f zero l h = numbered_none f l (λ i. f (i + 1) (get_or l i d))
  numbered-rows d f (suc n) l h =
      let e : 1 + length (take n l) ≡ n + 1 = omega (arith, length-take-le n l (omega arith)) in
      rw (take-suc l n d h, numbered_last f 1 (take n l) (get_or l n d), e, numbered-rows d f n l (omega arith), ← upward-more n (λ i. f (i + 1) (get_or l i d)), add-one)

  pub map_rows : (d : A) (f : A → B) (n : ℕ) (l : List A) → n ≤ length l → map f (take n l) ≡ upward 0 n (λ i. f (get_or l i d))
  map_rows d f n l h = map-numbered f 1 (take n l) ∙ numbered-rows d (λ i x. f x) n l h
