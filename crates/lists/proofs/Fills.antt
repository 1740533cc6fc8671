-- `upward`, the list f 0, f 1, .. f (n - 1): what a loop that fills an array from the front keeps, and what a loop that writes rows keeps.
use mathlib.Core.Path.{◌≡◌, refl, sym, ap, ◌∙◌}
use mathlib.Core.List.{List, [], ◌∷◌, ◌++◌, map, append_assoc, append-nil, map-append}
use mathlib.Core.Logic.{⊎_elim}
use Prim.Native.Nat.{ℕ, zero, suc, ◌+◌, ◌-◌, ◌*◌, ◌≤◌, ◌<◌}
use native.Mathlib.Nat.{add-zero, zero-add, sub-zero, mul-suc, mul-zero, mul-le-mul_left, eq-or-lt_of_le, le_of_suc-le-suc}
use native.Mathlib.Numerals.{add-one}
use native.Mathlib.Omega.{arith}
use lib.ListN.{length, get_or, set, take, drop, replicate, length-append, length-drop, length-map}
use lib.Seq.{take-suc, take-suc-set, take_all, length-take-le, get_or-take, set_at, drop-cons, drop_at, take-append-le, drop-append-le, get_or-append-add, get_or-drop, set-append_seam}
use Rattle.model.specs.declared.Order.{Order}
use Rattle.model.specs.Lists.{upward, concat, part}
use Rattle.lists.specs.Stored.{Stored}
use Rattle.lists.proofs.Stores.{stored_none, stored_then}

module _ {A : Type 0} where
  pub length-upward : (k n : ℕ) (f : ℕ → A) → length (upward k n f) ≡ n
  unfolding upward
  length-upward k zero f = refl
  length-upward k (suc n) f = ap suc (length-upward (suc k) n f)

  -- One more at the end.
  upward_last : (k n : ℕ) (f : ℕ → A) → upward k (suc n) f ≡ upward k n f ++ (f (k + n) ∷ [])
  unfolding upward
  upward_last k zero f = rw (add-zero k)
  upward_last k (suc n) f =
      let e : k + suc n ≡ suc k + n = omega arith in
      rw e (ap (λ (l : List A). f k ∷ l) (upward_last (suc k) n f))

  pub upward-more : (n : ℕ) (f : ℕ → A) → upward 0 (n + 1) f ≡ upward 0 n f ++ (f n ∷ [])
  upward-more n f = rw add-one (upward_last 0 n f ∙ rw (zero-add n))

  pub upward_from : (k n : ℕ) (f g : ℕ → A) → ((i : ℕ) → k ≤ i → i < k + n → f i ≡ g i) → upward k n f ≡ upward k n g
  unfolding upward
  upward_from k zero f g same = refl
  upward_from k (suc n) f g same = rw (same k (omega arith) (omega arith), upward_from (suc k) n f g (λ i low h. same i (omega arith) (omega arith)))

  pub upward-same : (n : ℕ) (f g : ℕ → A) → ((i : ℕ) → i < n → f i ≡ g i) → upward 0 n f ≡ upward 0 n g
  upward-same n f g same = upward_from 0 n f g (λ i low h. same i (omega arith))

  drop-upward : (d : A) (l : List A) (k n : ℕ) → k + n ≡ length l → upward k n (λ i. get_or l i d) ≡ drop k l
  unfolding upward
  drop-upward d l k zero h = sym (drop_none l k (omega arith))
    where
      drop_none : (l : List A) (k : ℕ) → length l ≡ k → drop k l ≡ []
      drop_none [] zero h = refl
      drop_none [] (suc k) h = refl
      drop_none (x ∷ l) zero h = absurd (omega arith)
      drop_none (x ∷ l) (suc k) h = drop_none l k (omega arith)
  drop-upward d l k (suc n) h = rw (drop-cons l k d (omega arith), drop-upward d l (suc k) n (omega arith))

  -- A list by its entries.
  pub upward_list : (d : A) (l : List A) (n : ℕ) → length l ≡ n → upward 0 n (λ i. get_or l i d) ≡ l
  upward_list d l n h = drop-upward d l 0 n (omega arith)

  pub get_d_from : (k n : ℕ) (f : ℕ → A) (i : ℕ) (d : A) → i < n → get_or (upward k n f) i d ≡ f (k + i)
  unfolding upward
  get_d_from k zero f i d h = absurd (let z : ⊥ = omega arith in z)
  get_d_from k (suc n) f zero d h = rw (add-zero k)
  get_d_from k (suc n) f (suc i) d h =
      let e : k + suc i ≡ suc k + i = omega arith in
      rw e (get_d_from (suc k) n f i d (omega arith))

  pub get_d_upward : (n : ℕ) (f : ℕ → A) (i : ℕ) (d : A) → i < n → get_or (upward 0 n f) i d ≡ f i
  get_d_upward n f i d h = get_d_from 0 n f i d h ∙ rw (zero-add i)

  -- An array filled from the front: nothing yet, one more, all of it.
  pub fill_start : (f : ℕ → A) → [] ≡ upward 0 0 f
  unfolding upward
  fill_start f = refl

  pub fill_next : (f : ℕ → A) (l : List A) (i : ℕ) (v : A) → i < length l → take i l ≡ upward 0 i f → v ≡ f i → take (i + 1) (set l i v) ≡ upward 0 (i + 1) f
  fill_next f l i v h e q = rw (upward-more i f, ← e, ← q, add-one) (take-suc-set l i v h)

  pub fill_end : (f : ℕ → A) (l : List A) (n : ℕ) → length l ≡ n → take n l ≡ upward 0 n f → l ≡ upward 0 n f
  fill_end f l n h e = sym (take_all n l (omega arith)) ∙ e

  -- The same in an array that held one value throughout, of which only a front part is filled.
  pub pad_start : (f : ℕ → A) (n : ℕ) (e : A) → replicate n e ≡ upward 0 0 f ++ replicate (n - 0) e
  unfolding upward
  pad_start f n e = rw (sub-zero n)

  pub pad_next : (f : ℕ → A) (n : ℕ) (e : A) (l : List A) (i : ℕ) (v : A) → i < n → l ≡ upward 0 i f ++ replicate (n - i) e → v ≡ f i → set l i v ≡ upward 0 (i + 1) f ++ replicate (n - (i + 1)) e
  pad_next f n e l i v h p q =
      let m : n - i ≡ suc (n - (i + 1)) = omega arith in
      rw (upward-more i f, p, q, m, append_assoc) (set_at (upward 0 i f) e (replicate (n - (i + 1)) e) (f i) i (length-upward 0 i f))

  -- Lists end to end.
  pub concat-append : (a b : List (List A)) → concat (a ++ b) ≡ concat a ++ concat b
  unfolding concat
  concat-append [] b = refl
  concat-append (x ∷ a) b = rw (concat-append a b, append_assoc)

  pub concat-one : (x : List A) → concat (x ∷ []) ≡ x
  unfolding concat
  concat-one x = append-nil x

-- A map by its entries.
pub map-upward : {A B : Type 0} (f : A → B) (d : A) (l : List A) (n : ℕ) → n ≤ length l → map f (take n l) ≡ upward 0 n (λ i. f (get_or l i d))
map-upward f d l n h =
    let long : length (map f (take n l)) ≡ n = length-map (take n l) f ∙ length-take-le n l h in
    sym
    (upward-same n (λ i. f (get_or l i d)) (λ i. get_or (map f (take n l)) i (f d)) (λ i g. sym (get_d_map f d (take n l) i ∙ ap f (get_or-take n l i d g)))
    ∙ upward_list (f d) (map f (take n l)) n long)
  where
    get_d_map : {A B : Type 0} (f : A → B) (d : A) (l : List A) (i : ℕ) → get_or (map f l) i (f d) ≡ f (get_or l i d)
    get_d_map f d [] i = refl
    get_d_map f d (x ∷ l) zero = refl
    get_d_map f d (x ∷ l) (suc i) = get_d_map f d l i

-- What is known of an array of structs speaks of its entries' fields: the list is as long.
pub length_mapped : (A B : Type 0) (f : A → B) (l : List A) (n : ℕ) → length (map f l) ≡ n → length l ≡ n
length_mapped A B f l n h = sym (length-map l f) ∙ h

-- Rows of equal size.
module _ (f : ℕ → List ℕ) (size : ℕ) (each : (k : ℕ) → length (f k) ≡ size) where
  rows_from : (k n : ℕ) → length (concat (upward k n f)) ≡ size * n
  unfolding upward concat
  rows_from k zero = sym (mul-zero size)
  rows_from k (suc n) =
      length-append (f k) (concat (upward (suc k) n f)) ∙ rw (each k, rows_from (suc k) n, mul-suc) (omega arith)

  pub length-rows : (n : ℕ) → length (concat (upward 0 n f)) ≡ size * n
  length-rows n = rows_from 0 n

  -- The row at place i.
  pub part_rows : (n i : ℕ) → i < n → part (concat (upward 0 n f)) (size * i) size ≡ f i
  part_rows zero i h = absurd (omega arith)
  part_rows (suc n) i h =
      let rows = concat (upward 0 n f) in
      let l : length rows ≡ size * n = length-rows n in
      rw (← add-one, upward-more n f, concat-append (upward 0 n f) (f n ∷ []), concat-one (f n))
      (⊎_elim
      (λ e.
      let g : size * i ≡ length rows = ap (λ (k : ℕ). size * k) e ∙ sym l in
      rw (g, drop_at rows (f n) (length rows) refl, take_all size (f n) (omega (arith, each n))) (ap f (sym e)))
      (λ lt.
      let a : size * suc i ≤ size * n = mul-le-mul_left size lt in
      let b : size * i + size ≤ length rows = rw l (rw mul-suc at a) in
      rw (drop-append-le (size * i) rows (f n) (omega arith), take-append-le size (drop (size * i) rows) (f n) (rw length-drop (omega arith)))
      (part_rows n i lt))
      (eq-or-lt_of_le (le_of_suc-le-suc h)))

-- Rows of equal size stored one after the other: m is l with the first i rows from place at on.
pub record Rows (f : ℕ → List ℕ) (size : ℕ) (l : List ℕ) (at i : ℕ) (m : List ℕ) : Type 0 where
  pub stored : Stored l at (concat (upward 0 i f)) m
  pub long : length (concat (upward 0 i f)) ≡ size * i

pub rows_none : (f : ℕ → List ℕ) (size : ℕ) (l : List ℕ) (at : ℕ) → Rows f size l at 0 l
unfolding upward concat
rows_none f size l at = record { stored = stored_none l at; long = sym (mul-zero size) }

pub rows_more : {f : ℕ → List ℕ} {size : ℕ} {l m t : List ℕ} {at j i : ℕ} → Rows f size l at i m → j ≡ at + size * i → Stored m j (f i) t → length (f i) ≡ size → Rows f size l at (i + 1) t
rows_more {f} {size} {l} {m} {t} {at} {j} {i} p e q h =
    let more : concat (upward 0 (i + 1) f) ≡ concat (upward 0 i f) ++ f i =
    rw (upward-more i f, concat-append (upward 0 i f) (f i ∷ []), concat-one (f i)) in
    record {
      stored = rw more (stored_then p.stored (rw p.long e) q);
      long = rw (more, length-append, p.long, h, add-one, mul-suc) (omega arith);
    }

-- A loop that replaces the entries of an array one by one: p stands in the place of the first i. The next entry is as it was, and gets its new value.
module _ {A : Type 0} (p l : List A) (i : ℕ) (done : length p ≡ i) where
  pub front_read : (d : A) → get_or (p ++ drop i l) i d ≡ get_or l i d
  front_read d =
      let here : get_or (p ++ drop i l) (length p + 0) d ≡ get_or l (i + 0) d = get_or-append-add p (drop i l) 0 d ∙ get_or-drop i l 0 d in
      rw (add-zero (length p), add-zero i, done) at here

  pub front_set : (v : A) → i < length l → set (p ++ drop i l) i v ≡ (p ++ (v ∷ [])) ++ drop (i + 1) l
  front_set v h =
      let there : set (p ++ get_or l i v ∷ drop (suc i) l) i v ≡ p ++ v ∷ drop (suc i) l = rw done at (set-append_seam p (get_or l i v) (drop (suc i) l) v) in
      rw (drop-cons l i v h, there, add-one, append_assoc)

-- Its new value is of the old one.
module _ {A : Type 0} (f : A → A) (d : A) where
  pub replaced_read : (l : List A) (i : ℕ) → get_or (map f (take i l) ++ drop i l) i d ≡ get_or l i d
  replaced_read l zero = refl
  replaced_read [] (suc i) = refl
  replaced_read (x ∷ l) (suc i) = replaced_read l i

  pub replaced_next : (l m : List A) (i : ℕ) (v : A) → i < length l → m ≡ map f (take i l) ++ drop i l → v ≡ f (get_or l i d) → set m i v ≡ map f (take (i + 1) l) ++ drop (i + 1) l
  replaced_next l m i v h e q =
      let long : length (map f (take i l)) ≡ i = length-map (take i l) f ∙ length-take-le i l (omega arith) in
      rw (e, q, front_set (map f (take i l)) l i long (f (get_or l i d)) h, add-one i, take-suc l i d h, map-append f (take i l) (get_or l i d ∷ []))

-- What is read past the end of an array of records: a record with no entries in its arrays.
abbrev pub past : Order
past = record { ticket = 0; accepted = 0; due = 0; sum = 0; station = 0; ranks = []; costs = []; maxima = [] }
