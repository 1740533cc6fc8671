-- Rows of equal size in a list: the rows that were written are read one by one, and the rows that are read one by one are what was written.
use mathlib.Core.Path.{◌≡◌, refl, sym, ◌∙◌}
use mathlib.Core.List.Memᴰ
use mathlib.Core.List.{List, [], ◌∷◌, ◌++◌, map, append_assoc}
use mathlib.Core.Logic.{inl, inr}
use Prim.Native.Nat.{ℕ, zero, suc, ◌+◌, ◌*◌, ◌≤◌, ◌<◌}
use native.Mathlib.Nat.{mul-suc, mul-zero, add-zero, le_of_suc-le-suc, not-suc-le-zero}
use native.Mathlib.Omega.{arith}
use lib.ListN.{length, get_or, take, drop, length-append}
use lib.Seq.{length-take-le, get_or-take, take_at, take-add, drop-append-add, drop-drop, get_or-drop}
use Rattle.model.specs.Lists.{part, concat, upward}
use Rattle.lists.proofs.Fills.{upward-same, upward_list}
use Rattle.schedule.specs.Valid.{◌∈◌}
use Rattle.image_laws.specs.InRange.{Below}

pub get_d_in : {A : Type 0} (l : List A) (d : A) (i : ℕ) → i < length l → get_or l i d ∈ l
get_d_in [] d i h = absurd (not-suc-le-zero h)
get_d_in (x ∷ l) d zero h = Memᴰ.head refl
get_d_in (x ∷ l) d (suc i) h = Memᴰ.tail (get_d_in l d i (le_of_suc-le-suc h))

-- A list by its entries, each of which is f's.
pub read_each : {A : Type 0} (d : A) (l : List A) (n : ℕ) (f : ℕ → A) → length l ≡ n → ((i : ℕ) → i < n → f i ≡ get_or l i d) → upward 0 n f ≡ l
read_each d l n f h each = upward-same n f (λ i. get_or l i d) each ∙ upward_list d l n h

pub take_each : (l : List ℕ) (n : ℕ) → n ≤ length l → upward 0 n (λ i. get_or l i 0) ≡ take n l
take_each l n h = read_each 0 (take n l) n (λ i. get_or l i 0) (length-take-le n l h) (λ i k. sym (get_or-take n l i 0 k))

-- Part of what stands after p.
pub part_after : (p x : List ℕ) (i j n : ℕ) → j ≡ length p + i → part (p ++ x) j n ≡ part x i n
part_after p x i j n e = rw (e, drop-append-add p x i)

-- Every entry below a limit, entry by entry.
abbrev pub Listed : ℕ → List ℕ → Type 0
Listed limit [] = Unit {0}
Listed limit (x ∷ l) = (x < limit) × Listed limit l

-- Entries below a limit: of a list that is written out, of two lists, of a part, of rows.
module _ {limit : ℕ} (some : 0 < limit) where
  pub below_listed : (l : List ℕ) → Listed limit l → Below limit l
  below_listed [] t i = some
  below_listed (x ∷ l) t zero = t.0
  below_listed (x ∷ l) t (suc i) = below_listed l t.1 i

  pub below_append : (l m : List ℕ) → Below limit l → Below limit m → Below limit (l ++ m)
  below_append [] m b c i = c i
  below_append (x ∷ l) m b c zero = b zero
  below_append (x ∷ l) m b c (suc i) = below_append l m (λ j. b (suc j)) c i

  below_take : (n : ℕ) (l : List ℕ) → Below limit l → Below limit (take n l)
  below_take zero l b j = some
  below_take (suc n) [] b j = some
  below_take (suc n) (x ∷ l) b zero = b zero
  below_take (suc n) (x ∷ l) b (suc j) = below_take n l (λ i. b (suc i)) j

  pub below_part : (l : List ℕ) → Below limit l → (i n : ℕ) → Below limit (part l i n)
  below_part l b i n = below_take n (drop i l) (λ j. rw (get_or-drop i l j 0) (b (i + j)))

  pub below_rows : {A : Type 0} (bytes : A → List ℕ) (l : List A) → ((a : A) → a ∈ l → Below limit (bytes a)) → Below limit (concat (map bytes l))
  unfolding concat
  below_rows bytes [] each i = some
  below_rows bytes (x ∷ l) each i =
      below_append (bytes x) (concat (map bytes l)) (each x (Memᴰ.head refl)) (below_rows bytes l (λ a m. each a (Memᴰ.tail m))) i

pub upward_in : {A : Type 0} {a : A} (k n : ℕ) (f : ℕ → A) → a ∈ upward k n f → (i : ℕ) × (a ≡ f i)
unfolding upward
upward_in k zero f m = absurd (Memᴰ.not-nil m)
upward_in k (suc n) f m = elim (Memᴰ.cases_cons m) [ inl e ↦ (k, e) | inr q ↦ upward_in (suc k) n f q ]

module _ {A : Type 0} (bytes : A → List ℕ) (size : ℕ) where
  abbrev pub Sized : List A → Type 0
  Sized l = (a : A) → a ∈ l → length (bytes a) ≡ size

  pub rows_length : (l : List A) → Sized l → length (concat (map bytes l)) ≡ size * length l
  unfolding concat
  rows_length [] each = sym (mul-zero size)
  rows_length (x ∷ l) each =
      length-append (bytes x) (concat (map bytes l))
      ∙ rw (each x (Memᴰ.head refl), rows_length l (λ a m. each a (Memᴰ.tail m)), mul-suc) (omega arith)

  -- The row of the entry at place i.
  pub rows_part : (d : A) (l : List A) (rest : List ℕ) → Sized l → (i : ℕ) → i < length l → part (concat (map bytes l) ++ rest) (size * i) size ≡ bytes (get_or l i d)
  unfolding concat
  rows_part d [] rest each i h = absurd (not-suc-le-zero h)
  rows_part d (x ∷ l) rest each zero h =
      rw (mul-zero size, append_assoc (bytes x) (concat (map bytes l)) rest) (take_at (bytes x) (concat (map bytes l) ++ rest) size (each x (Memᴰ.head refl)))
  rows_part d (x ∷ l) rest each (suc i) h =
      let e : size * suc i ≡ length (bytes x) + size * i = mul-suc size i ∙ omega (arith, each x (Memᴰ.head refl)) in
      rw (append_assoc (bytes x) (concat (map bytes l)) rest)
      (part_after (bytes x) (concat (map bytes l) ++ rest) (size * i) (size * suc i) size e
      ∙ rows_part d l rest (λ a m. each a (Memᴰ.tail m)) i (le_of_suc-le-suc h))

  -- Rows that are written as they were read.
  module _ (of : List ℕ → A) (x : List ℕ) (start count : ℕ) (back : (i : ℕ) → i < count → bytes (of (part x (start + size * i) size)) ≡ part x (start + size * i) size) where
    written_from : (k n : ℕ) → k + n ≤ count → concat (map bytes (upward k n (λ i. of (part x (start + size * i) size)))) ≡ part x (start + size * k) (size * n)
    unfolding upward concat
    written_from k zero h = rw (mul-zero size)
    written_from k (suc n) h =
        let here = start + size * k in
        let more : size * suc n ≡ size + size * n = rw (mul-suc size n) (omega arith) in
        let next : start + size * suc k ≡ here + size = rw (mul-suc size k) (omega arith) in
        rw (back k (omega arith), written_from (suc k) n (omega arith), more, next, take-add size (size * n) (drop here x), drop-drop size here x)

    pub rows_written : concat (map bytes (upward 0 count (λ i. of (part x (start + size * i) size)))) ≡ part x start (size * count)
    rows_written = rw (mul-zero size, add-zero start) at (written_from 0 count (omega arith))
