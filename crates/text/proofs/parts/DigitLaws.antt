-- A word, digit by digit: form and value of the digits that are left decide those of the whole. The tests are those of the code that reads it.
use mathlib.Core.Path.{◌≡◌, refl, ◌∙◌}
use mathlib.Core.Bool.{Bool, true, false, ◌||◌}
use mathlib.Core.List.{List, [], ◌∷◌, foldl}
use Prim.Native.Nat.{ℕ, ◌+◌, ◌*◌, ◌^◌, ◌≤◌, ◌<◌}
use native.Mathlib.Nat.{pow-suc}
use native.Mathlib.Numerals.{add-one}
use native.Mathlib.Omega.{arith}
use lib.Dec.{ltb}
use lib.ListN.{length, get_or, drop, drop_of_length-le}
use lib.Seq.{drop-cons}
use borrow.Author.Tests.{ltb-false}
use Rattle.model.specs.Lists.{all}
use Rattle.lists.proofs.Tests.{both_false, inside}
use Rattle.text.specs.Number.{is_digit, appended, value_of}

-- A number below one bound or above the other; a byte that is no digit.
abbrev pub outside : ℕ → ℕ → ℕ → Bool
outside low high n = ltb n low || ltb high n

abbrev pub other_byte : ℕ → Bool
other_byte b = outside 48 57 b

pub bounds : (low high n : ℕ) → outside low high n ≡ false → (low ≤ n) × (n ≤ high)
bounds low high n e =
    let k = both_false (ltb n low) (ltb high n) e in
    (ltb-false n low k.0, ltb-false high n k.1)

-- The first i digits are read, and have this value.
pub record Digits (word : List ℕ) (value i : ℕ) : Type 0 where
  pub form : all is_digit word ≡ all is_digit (drop i word)
  pub left : value_of word ≡ foldl appended value (drop i word)
  pub small : value < 10 ^ i

pub digits_none : {word : List ℕ} → Digits word 0 0
unfolding value_of
digits_none = record { form = refl; left = refl; small = omega arith }

module _ {word : List ℕ} {value i : ℕ} (k : Digits word value i) where
  -- The next byte is a digit, or it is none; or no byte is left.
  module _ (h : i < length word) where
    next_byte : drop i word ≡ get_or word i 0 ∷ drop (i + 1) word
    next_byte = rw (add-one, drop-cons word i 0)

    pub digits_more : other_byte (get_or word i 0) ≡ false → Digits word (appended value (get_or word i 0)) (i + 1)
    unfolding all
    digits_more e =
        let b = bounds 48 57 (get_or word i 0) e in
        let p : 10 ^ (i + 1) ≡ 10 ^ i * 10 = rw (add-one, pow-suc) in
        record {
          form = k.form ∙ rw (next_byte, inside 48 57 (get_or word i 0) e);
          left = k.left ∙ rw next_byte;
          small = rw p (omega (arith, k.small));
        }

    pub digits_broken : other_byte (get_or word i 0) ≡ true → all is_digit word ≡ false
    unfolding all
    digits_broken e = k.form ∙ rw (next_byte, inside 48 57 (get_or word i 0) e)

  pub digits_all : length word ≤ i → (all is_digit word ≡ true) × (value_of word ≡ value)
  unfolding all
  digits_all h = (k.form ∙ rw (drop_of_length-le word h), k.left ∙ rw (drop_of_length-le word h))

  -- What the digits read say is no more than what the word says.
  pub digits_least : value ≤ value_of word
  digits_least = rw k.left (grows value (drop i word))
    where
      grows : (v : ℕ) (l : List ℕ) → v ≤ foldl appended v l
      grows v [] = omega arith
      grows v (d ∷ l) = omega (arith, grows (appended v d) l)
