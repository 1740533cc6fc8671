-- Rows of limits, place by place, and the entries that count, added up.
use mathlib.Core.Path.{◌≡◌, sym, ap, subst, ◌∙◌}
use mathlib.Core.Bool.{Bool, true, false, cond}
use mathlib.Core.List.{List, ◌++◌, map}
use Prim.Native.Nat.{ℕ, zero, suc, ◌+◌, ◌-◌, ◌≤◌, ◌<◌}
use native.Mathlib.Nat.{mod-eq_of_lt}
use native.Mathlib.Numerals.{add-one}
use native.Mathlib.Omega.{arith}
use lib.ListN.{length, get_or, take, replicate, get_or-replicate, get_or-append}
use lib.Seq.{take_all, get_or-append-add}
use lib.Bits.{bit_and, and_mask, and_zero_r}
use lib.Dec.{ltb}
use borrow.Author.Tests.{ltb-true, ltb-false}
use Rattle.std.specs.List.{zip}
use Rattle.std.proofs.lemmas.Slice.Zip.{length-zip, get_or-zip}
use Rattle.model.specs.Lists.{total, upward}
use Rattle.lists.proofs.Fills.{length-upward, get_d_upward, upward-same, map-upward}
use Rattle.lists.proofs.Tests.{either, total_none, total_first, total_upward}
use Rattle.soundness.specs.RowLimits.{first_places}

-- Eight entries of eight times x and eight times 0, from that place on that leaves `count` times x.
pub table_place : (x count k : ℕ) → count ≤ 8 → k < 8 → get_or (replicate 8 x ++ replicate 8 0) (8 - count + k) 0 ≡ cond (ltb k count) x 0
table_place x count k h g =
    either (λ b. get_or (replicate 8 x ++ replicate 8 0) (8 - count + k) 0 ≡ cond b x 0) (ltb k count)
    (λ e.
    let low : 8 - count + k < 8 = omega (arith, ltb-true k count e) in
    get_or-append (replicate 8 x) (replicate 8 0) 0 (8 - count + k) low ∙ get_or-replicate 8 (8 - count + k) x 0 low)
    (λ e.
    let high : 8 - count + k ≡ 8 + (k - count) = omega (arith, ltb-false k count e) in
    rw high (get_or-append-add (replicate 8 x) (replicate 8 0) (k - count) 0 ∙ get_or-replicate 8 (k - count) 0 0 (omega arith)))

pub first_place : (count x k : ℕ) → k < 8 → get_or (first_places count x) k 0 ≡ cond (ltb k count) x 0
unfolding first_places
first_place count x k h = get_d_upward 8 (λ j. cond (ltb j count) x 0) k 0 h

pub length_first : (count x : ℕ) → length (first_places count x) ≡ 8
unfolding first_places
length_first count x = length-upward 0 8 (λ j. cond (ltb j count) x 0)

-- Every bit of an entry or none, and the entries with every bit added up.
masked : (b : Bool) (x : ℕ) → x < 65536 → bit_and x (cond b 65535 0) ≡ cond b x 0
masked true x h = and_mask x 16 ∙ mod-eq_of_lt h
masked false x h = and_zero_r x

module _ (l : List ℕ) (count : ℕ) where
  abbrev counted : ℕ → ℕ
  counted j = cond (ltb j count) (get_or l j 0) 0

  counted_none : total (upward 0 0 counted) ≡ total (take count (take 0 l))
  unfolding upward total
  counted_none = total_none count

  counted_first : (k : ℕ) → k ≤ length l → total (upward 0 k counted) ≡ total (take count (take k l))
  counted_first zero h = counted_none
  counted_first (suc k) h =
      subst (λ (m : ℕ). total (upward 0 m counted) ≡ total (take count (take m l))) (add-one k)
      (total_upward k counted ∙ rw (counted_first k (omega arith)) (sym (total_first l k (omega arith) count)))

  pub counted_is : length l ≡ 8 → ((j : ℕ) → get_or l j 0 < 65536) → total (map (λ p. bit_and p.0 p.1) (zip l (first_places count 65535))) ≡ total (take count l)
  counted_is long small =
      let bits = first_places count 65535 in
      let whole : length (zip l bits) ≡ 8 = omega (arith, length-zip l bits, length_first count 65535) in
      ap total
      ((rw (take_all 8 (zip l bits) (omega arith)) at (map-upward (λ (p : ℕ × ℕ). bit_and p.0 p.1) (0, 0) (zip l bits) 8 (omega arith)))
      ∙ upward-same 8 (λ j. bit_and (get_or (zip l bits) j (0, 0)).0 (get_or (zip l bits) j (0, 0)).1) counted
      (λ j h. rw (get_or-zip l bits j (0, 0) (omega arith) (omega (arith, length_first count 65535)), first_place count 65535 j h) (masked (ltb j count) (get_or l j 0) (small j))))
      ∙ counted_first 8 (omega arith)
      ∙ rw (take_all 8 l (omega arith))
