-- Parts of a list of bytes: a part of a part lies in the whole, and a number is 0 where each of its bytes is.
use mathlib.Core.Path.{◌≡◌, sym, ap, ◌∙◌}
use mathlib.Core.Bool.{◌&&◌}
use mathlib.Core.List.{List, [], ◌∷◌, ◌++◌}
use Prim.Native.Nat.{ℕ, zero, suc, ◌+◌, ◌*◌, ◌≤◌, ◌<◌}
use native.Mathlib.Nat.{mul-zero, mul-suc}
use native.Mathlib.Numerals.{add-one}
use native.Mathlib.Omega.{arith}
use lib.ListN.{length, take, drop}
use lib.Seq.{take-nil, take-take, take-add, drop-drop, drop-cons, get_or-take, get_or-drop}
use lib.Dec.{eqb, ltb, eqb-suc-zero}
use borrow.Author.Tests.{lt-ltb, le-ltb, ne_eqb}
use Rattle.model.specs.Lists.{part, is_zero, all}
use Rattle.model.specs.Bytes.{byte, half, word}
use Rattle.lists.proofs.Tests.{and_true, and_assoc, all_append}
use Rattle.lists.proofs.Overlays.{zero_both}
use Rattle.std.specs.List.{fold}
use lib.Bits.{bit_or}

module _ {A : Type 0} where
  part_front : (l : List A) (b m n : ℕ) → b + m ≤ n → part (take n l) b m ≡ part l b m
  part_front l zero m n h = take-take m n l (omega arith)
  part_front [] (suc b) m n h = rw (take-nil n)
  part_front (x ∷ l) (suc b) m zero h = absurd (omega arith)
  part_front (x ∷ l) (suc b) m (suc n) h = part_front l b m n (omega arith)

  pub part_part : (l : List A) (a n b m : ℕ) → b + m ≤ n → part (part l a n) b m ≡ part l (a + b) m
  part_part l a n b m h = part_front (drop a l) b m n h ∙ rw (drop-drop b a l)

  part_add : (l : List A) (a n m : ℕ) → part l a (n + m) ≡ part l a n ++ part l (a + n) m
  part_add l a n m = take-add n m (drop a l) ∙ rw (drop-drop n a l)

byte_part : (l : List ℕ) (a n b : ℕ) → b < n → byte (part l a n) b ≡ byte l (a + b)
byte_part l a n b h = get_or-take n (drop a l) b 0 h ∙ get_or-drop a l b 0

pub word_part : (l : List ℕ) (a n b : ℕ) → b + 4 ≤ n → word (part l a n) b ≡ word l (a + b)
word_part l a n b h =
    let e1 : a + (b + 1) ≡ a + b + 1 = omega arith in
    let e2 : a + (b + 2) ≡ a + b + 2 = omega arith in
    let e3 : a + (b + 2 + 1) ≡ a + b + 2 + 1 = omega arith in
    rw
    (byte_part l a n b (omega arith), byte_part l a n (b + 1) (omega arith), byte_part l a n (b + 2) (omega arith), byte_part l a n (b + 2 + 1) (omega arith), e1, e2, e3)

-- The first byte, and those after it.
zero_first : (l : List ℕ) (a n : ℕ) → a < length l → all is_zero (part l a (suc n)) ≡ (is_zero (byte l a) && all is_zero (part l (a + 1) n))
unfolding all
zero_first l a n h = rw (drop-cons l a 0 h, add-one)

zero_sum : (a b k : ℕ) → 0 < k → eqb (a + k * b) 0 ≡ (is_zero a && is_zero b)
zero_sum zero zero k h = rw (mul-zero k)
zero_sum zero (suc b) k h = ne_eqb (0 + k * suc b) 0 (λ e. omega (arith, mul-suc k b)) ∙ sym (eqb-suc-zero b)
zero_sum (suc a) b k h = ne_eqb (suc a + k * b) 0 (λ e. omega arith) ∙ sym (ap (λ t. t && is_zero b) (eqb-suc-zero a))

pub zero_byte : (l : List ℕ) (a : ℕ) → a + 1 ≤ length l → is_zero (byte l a) ≡ all is_zero (part l a 1)
unfolding all
zero_byte l a h = sym (zero_first l a 0 (omega arith) ∙ and_true (is_zero (byte l a)))

pub zero_half : (l : List ℕ) (a : ℕ) → a + 2 ≤ length l → is_zero (half l a) ≡ all is_zero (part l a 2)
zero_half l a h =
    zero_sum (byte l a) (byte l (a + 1)) 256 (omega arith)
    ∙ rw (zero_byte l (a + 1) (omega arith)) (sym (zero_first l a 1 (omega arith)))

pub zero_word : (l : List ℕ) (a : ℕ) → a + 4 ≤ length l → is_zero (word l a) ≡ all is_zero (part l a 4)
zero_word l a h =
    zero_sum (half l a) (half l (a + 2)) 65536 (omega arith)
    ∙ rw (zero_half l a (omega arith), zero_half l (a + 2) (omega arith))
    (sym (ap (all is_zero) (part_add l a 2 2) ∙ all_append is_zero (part l a 2) (part l (a + 2) 2)))

-- A number below 256 has one byte.
one_byte_lem : (a b h : ℕ) → a < 256 → ltb (a + 256 * b + 65536 * h) 256 ≡ (is_zero b && is_zero h)
one_byte_lem a zero zero p = lt-ltb (a + 256 * 0 + 65536 * 0) 256 (omega arith)
one_byte_lem a zero (suc h) p = le-ltb (a + 256 * 0 + 65536 * suc h) 256 (omega arith) ∙ sym (eqb-suc-zero h)
one_byte_lem a (suc b) h p = le-ltb (a + 256 * suc b + 65536 * h) 256 (omega arith) ∙ sym (ap (λ t. t && is_zero h) (eqb-suc-zero b))

pub zero_rest : (l : List ℕ) (a : ℕ) → a + 4 ≤ length l → byte l a < 256 → ltb (word l a) 256 ≡ all is_zero (part l (a + 1) 3)
zero_rest l a h small =
    let next : a + 1 + 1 ≡ a + 2 = omega arith in
    one_byte_lem (byte l a) (byte l (a + 1)) (half l (a + 2)) small
    ∙ rw (zero_half l (a + 2) (omega arith)) (sym (zero_first l (a + 1) 2 (omega arith) ∙ rw next))

-- Bytes laid one over the other are 0 where each of them is.
laid_over : (l : List ℕ) (a : ℕ) → is_zero (fold (λ x y. bit_or x y) a l) ≡ (is_zero a && all is_zero l)
unfolding all
laid_over [] a = sym (and_true (is_zero a))
laid_over (b ∷ l) a = laid_over l (bit_or a b) ∙ rw (zero_both a b) (and_assoc (is_zero a) (is_zero b) (all is_zero l))

pub overlaid_zero : (l : List ℕ) → is_zero (fold (λ x y. bit_or x y) 0 l) ≡ all is_zero l
overlaid_zero l = laid_over l 0
