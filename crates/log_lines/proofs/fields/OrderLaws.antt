-- The first so many values from a place on, with zeros after them, as a loop that fills an array finds them.
use mathlib.Core.Path.{◌≡◌, sym, ap, ◌∙◌}
use mathlib.Core.List.{List, [], ◌∷◌, ◌++◌}
use Prim.Native.Nat.{ℕ, suc, ◌+◌, ◌*◌, ◌-◌, ◌≤◌}
use native.Mathlib.Numerals.{add-one}
use native.Mathlib.Omega.{arith}
use lib.ListN.{length, get_or, take, drop, replicate, length-drop, length-replicate}
use lib.Seq.{get_or-drop, length-take-le, take-append_seam, take-append-add, drop-append_seam}
use borrow.Rule.Slice.PartMut.{put_mid}
use Rattle.std.proofs.lemmas.List.{drop-replicate, take-replicate}
use Rattle.model.specs.Limits.{max_stations}
use Rattle.model.specs.Lists.{part, upward}
use Rattle.lists.proofs.Fills.{upward-same}
use Rattle.image_laws.proofs.Rows.{take_each}
use Rattle.log_model.specs.Limits.{most8, most16, most32}
use Rattle.log_model.specs.Lines.{to_eight, order_fields}
use Rattle.log_lines.specs.Orders.{max_fields}

-- The values of a row that begins at a place.
abbrev pub from_place : List ℕ → ℕ → ℕ → ℕ
from_place values at i = get_or values (at + i) 0

module _ (values : List ℕ) (at n : ℕ) (fits : at + n ≤ length values) where
  room : n ≤ length (drop at values)
  room = rw length-drop (omega arith)

  row_is_part : upward 0 n (from_place values at) ≡ part values at n
  row_is_part = upward-same n (from_place values at) (λ i. get_or (drop at values) i 0) (λ i h. sym (get_or-drop at values i 0)) ∙ take_each (drop at values) n room

  pub row_to_eight : upward 0 n (from_place values at) ++ replicate (max_stations - n) 0 ≡ to_eight (part values at n)
  row_to_eight = rw (row_is_part, length-take-le n (drop at values) room)

-- A row of x, a list and more, with another list written over the more from its front on.
module _ (x : ℕ) (front more : List ℕ) {n : ℕ} (long : length front ≡ n) where
  take_front : take (n + 1) (x ∷ (front ++ more)) ≡ x ∷ front
  take_front = rw (add-one, ← long) (ap (λ (l : List ℕ). x ∷ l) (take-append_seam front more))

  drop_front : drop (n + 1) (x ∷ (front ++ more)) ≡ more
  drop_front = rw (add-one, ← long) (drop-append_seam front more)

  written : (k : ℕ) (l : List ℕ) → put_mid (n + 1) k (x ∷ (front ++ more)) l ≡ x ∷ (front ++ (l ++ drop k more))
  written k l = rw (take_front, drop_front)

-- The largest values of an order's fields, as they are written over a row of the largest: those of the ranks first, and those of the costs after them.
module _ (n : ℕ) (few : n ≤ max_stations) {ranks costs : List ℕ} (r : ranks ≡ replicate n most8) (c : costs ≡ replicate n most16) where
  abbrev left : List ℕ
  left = replicate (max_fields - 1 - n - n) most32

  in_front : take (2 * n + 3) (most32 ∷ (ranks ++ (costs ++ left))) ≡ order_fields n
  unfolding order_fields
  in_front =
      let e : 2 * n + 3 ≡ suc (length ranks + (length costs + 2)) = omega (arith, ap length r, ap length c, length-replicate n most8, length-replicate n most16) in
      let two : take 2 left ≡ most32 ∷ most32 ∷ [] = take-replicate 2 (max_fields - 1 - n - n) most32 (omega arith) in
      rw e (ap (λ (l : List ℕ). most32 ∷ l) (take-append-add ranks (costs ++ left) (length costs + 2) ∙ rw (take-append-add costs left 2, two, r, c)))

  pub order_mosts : (j k : ℕ) → j ≡ n → k ≡ n → take (2 * n + 3) (put_mid (n + 1) k (most32 ∷ (ranks ++ drop j (drop 1 (replicate max_fields most32)))) costs) ≡ order_fields n
  order_mosts j k d e =
      let long : length ranks ≡ n = omega (arith, ap length r, length-replicate n most8) in
      rw (d, e, drop-replicate n 18 most32, written most32 ranks (replicate (18 - n) most32) long n costs, drop-replicate n (18 - n) most32) in_front
