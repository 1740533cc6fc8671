-- Rows printed one after the other by a loop over a list: none is printed at first, each turn prints the next one, and all are printed at the end. Room for
-- all of them is room for the next one. For rows that hold the number of their entry, from 1, and for rows of the entries alone.
use mathlib.Core.Path.{◌≡◌, refl, sym, ap, ◌∙◌}
use mathlib.Core.List.{List, [], ◌∷◌, ◌++◌, map}
use Prim.Native.Nat.{ℕ, ◌+◌, ◌≤◌, ◌<◌}
use native.Mathlib.Numerals.{add-one}
use native.Mathlib.Omega.{arith}
use lib.ListN.{length, get_or, take, drop, length-append}
use lib.Seq.{take_all, take-suc, length-take-le}
use Rattle.std.proofs.lemmas.List.{take-append-drop}
use Rattle.model.specs.Lists.{concat, numbered}
use Rattle.lists.proofs.Fills.{concat-append, concat-one}
use Rattle.lists.proofs.Stores.{put_none}
use Rattle.lists.proofs.Tests.{numbered-append}
use Rattle.text.specs.declared.begun.Text.{Text}
use Rattle.text.specs.Printed.{Printed, Room}
use Rattle.text.proofs.Printing.{◌then◌}
use Rattle.text.proofs.Rows.{map-numbered}

pub printed_none : (t : Text) → Printed t [] t
printed_none t = record { put = put_none t.out.now t.at; room = refl; buffer = refl }

-- What is printed, in other words.
pub printed_as : {t u : Text} {x y : List ℕ} → Printed t x u → x ≡ y → Printed t y u
printed_as p e = rw e at p

module _ {A : Type 0} (f : ℕ → A → List ℕ) where
  abbrev pub numbered_rows : List A → List ℕ
  numbered_rows l = concat (numbered f 1 l)

  rows_append : (l m : List A) → numbered_rows (l ++ m) ≡ numbered_rows l ++ concat (numbered f (1 + length l) m)
  rows_append l m = rw (numbered-append f 1 l m) (concat-append (numbered f 1 l) (numbered f (1 + length l) m))

  rows_one : (k : ℕ) (x : A) → concat (numbered f k (x ∷ [])) ≡ f k x
  unfolding numbered
  rows_one k x = concat-one (f k x)

  rows_next : (l : List A) (i : ℕ) (d : A) → i < length l → numbered_rows (take (i + 1) l) ≡ numbered_rows (take i l) ++ f (i + 1) (get_or l i d)
  rows_next l i d h =
      let e : 1 + length (take i l) ≡ i + 1 = omega (arith, length-take-le i l (omega arith)) in
      rw (add-one, take-suc l i d h, rows_append (take i l) (get_or l i d ∷ []), e, rows_one (i + 1) (get_or l i d), add-one)

  rows_first : (l : List A) (i : ℕ) → length (numbered_rows (take i l)) ≤ length (numbered_rows l)
  rows_first l i =
      let e : numbered_rows l ≡ numbered_rows (take i l) ++ concat (numbered f (1 + length (take i l)) (drop i l)) =
      ap numbered_rows (sym (take-append-drop i l)) ∙ rows_append (take i l) (drop i l) in
      omega (arith, ap length e, length-append (numbered_rows (take i l)) (concat (numbered f (1 + length (take i l)) (drop i l))))

  rows_fit : (l : List A) (i : ℕ) (d : A) → i < length l → length (numbered_rows (take i l)) + length (f (i + 1) (get_or l i d)) ≤ length (numbered_rows l)
  rows_fit l i d h = omega (arith, rows_first l (i + 1), ap length (rows_next l i d h), length-append (numbered_rows (take i l)) (f (i + 1) (get_or l i d)))

-- The rows of the first i entries are printed.
pub record Rows {A : Type 0} (f : ℕ → A → List ℕ) (l : List A) (t : Text) (i : ℕ) (u : Text) : Type 0 where
  pub printed : Printed t (concat (numbered f 1 (take i l))) u

module _ {A : Type 0} where
  pub rows_none : (f : ℕ → A → List ℕ) (l : List A) (t : Text) → Rows f l t 0 t
  unfolding concat numbered
  rows_none f l t = record { printed = printed_none t }

  pub rows_more : {f : ℕ → A → List ℕ} {l : List A} {t u w : Text} {i : ℕ} (d : A) → Rows f l t i u → Printed u (f (i + 1) (get_or l i d)) w → i < length l → Rows f l t (i + 1) w
  rows_more {f} {l} {t} {u} {w} {i} d p q h = record { printed = rw (rows_next f l i d h) (p.printed then q) }

  pub rows_room : {f : ℕ → A → List ℕ} {l : List A} {t u : Text} {i : ℕ} (d : A) → Rows f l t i u → i < length l → Room t (concat (numbered f 1 l)) → Room u (f (i + 1) (get_or l i d))
  rows_room {f} {l} {t} {u} {i} d p h r = omega (arith, rows_fit f l i d h, p.printed.put.place, p.printed.room)

  pub rows_all : {f : ℕ → A → List ℕ} {l : List A} {t u : Text} {i : ℕ} → Rows f l t i u → length l ≤ i → Printed t (concat (numbered f 1 l)) u
  rows_all {f} {l} {t} {u} {i} p h = rw (take_all i l h) at p.printed

  -- The same of rows that say nothing of the number.
  pub mapped_room : {f : A → List ℕ} {l : List A} {t u : Text} {i : ℕ} (d : A) → Rows (λ k. f) l t i u → i < length l → Room t (concat (map f l)) → Room u (f (get_or l i d))
  mapped_room {f} {l} {t} {u} {i} d p h r = rows_room d p h (rw (← map-numbered f 1 l) r)

  pub mapped_all : {f : A → List ℕ} {l : List A} {t u : Text} {i : ℕ} → Rows (λ k. f) l t i u → length l ≤ i → Printed t (concat (map f l)) u
  mapped_all {f} {l} {t} {u} {i} p h = rw (map-numbered f 1 l) (rows_all p h)
