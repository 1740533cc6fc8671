-- A word that is to be a number of at most another, digit by digit: what each way out of the code says of the whole word.
use mathlib.Core.Path.{◌≡◌, refl, ap}
use mathlib.Core.Bool.{true, false, ◌&&◌, or-true}
use mathlib.Core.List.{List}
use mathlib.Core.Logic.{⊎_elim}
use Prim.Native.Nat.{ℕ, ◌+◌, ◌*◌, ◌-◌, ◌^◌, ◌≤◌, ◌<◌}
use native.Mathlib.Omega.{arith}
use lib.Dec.{leb, ltb, eqb}
use lib.ListN.{length, get_or}
use borrow.Author.Tests.{leb-true, leb-false, le-leb, lt-leb, lt-ltb, le-ltb, eq-eqb, ne_eqb}
use Rattle.std.specs.Char.{IsAsciiDigit, IsNotAsciiDigit}
use Rattle.std.proofs.Common.{Some, None}
use Rattle.lists.proofs.Tests.{either, and_false}
use Rattle.text.specs.Number.{is_decimal, no_leading_zero, value_of}
use Rattle.text.specs.Numbers.{fits, number_in}
use Rattle.text.proofs.Decimals.{length-decimal}
use Rattle.text.proofs.Values.{decimal_value}
use Rattle.text.proofs.parts.DigitLaws.{other_byte, Digits, digits_more, digits_broken, digits_all}

digit_byte : (b : ℕ) → IsAsciiDigit b → other_byte b ≡ false
digit_byte b d = rw (le-ltb b 48 (omega arith), le-ltb 57 b (omega arith))

no_digit : (b : ℕ) → IsNotAsciiDigit b → other_byte b ≡ true
no_digit b d =
    ⊎_elim
    (λ l. rw (lt-ltb b 48 l))
    (λ r. rw (lt-ltb 57 b r) (or-true (ltb b 48)))
    d

-- The next digit.
pub digit_more : {word : List ℕ} {value i d : ℕ} → Digits word value i → i < length word → IsAsciiDigit (get_or word i 0) → d ≡ get_or word i 0 - 48 → Digits word (value * 10 + d) (i + 1)
digit_more {word} {value} {i} k h e is = rw is (digits_more k h (digit_byte (get_or word i 0) e))

module _ (word : List ℕ) where
  pub one_digit : length word ≡ 1 → no_leading_zero word ≡ true
  one_digit e = rw (eq-eqb (length word) 1 e)

  pub other_first : (get_or word 0 0 ≡ 48 → ⊥) → no_leading_zero word ≡ true
  other_first e = rw (ne_eqb (get_or word 0 0) 48 e) (or-true (eqb (length word) 1))

module _ (most : ℕ) (word : List ℕ) where
  unfit : fits most word ≡ false → None ≡ number_in most word
  unfolding number_in
  unfit e = rw e

  no_decimal : is_decimal word ≡ false → None ≡ number_in most word
  unfolding fits
  no_decimal e = unfit (rw e)

  -- A word without digits, with a leading zero, with another byte than a digit, with too large a value.
  pub no_digits : length word < 1 → None ≡ number_in most word
  unfolding is_decimal
  no_digits h = no_decimal (rw (lt-leb 1 (length word) h))

  pub zero_first : (length word ≡ 1 → ⊥) → get_or word 0 0 ≡ 48 → None ≡ number_in most word
  unfolding is_decimal
  zero_first more zero = no_decimal (rw (ne_eqb (length word) 1 more, eq-eqb (get_or word 0 0) 48 zero, and_false (leb 1 (length word))))

  larger : most < value_of word → None ≡ number_in most word
  unfolding fits
  larger h = unfit (rw (lt-leb (value_of word) most h, and_false (is_decimal word)))

  -- More than ten digits are more than any number of 32 bits.
  pub too_long : most < 2 ^ 32 → 10 < length word → None ≡ number_in most word
  too_long bits long =
      either (λ b. is_decimal word ≡ b → None ≡ number_in most word) (is_decimal word)
      (λ t form.
      either (λ b. leb (value_of word) most ≡ b → None ≡ number_in most word) (leb (value_of word) most)
      (λ u e.
      let small : value_of word ≤ most = leb-true (value_of word) most e in
      absurd (let z : ⊥ = omega (arith, ap length (decimal_value word form), length-decimal 9 (value_of word) (omega arith)) in z))
      (λ u e. larger (leb-false (value_of word) most e))
      refl)
      (λ t form. no_decimal form)
      refl

  module _ {value i : ℕ} (k : Digits word value i) where
    pub byte_other : i < length word → IsNotAsciiDigit (get_or word i 0) → None ≡ number_in most word
    unfolding is_decimal
    byte_other h e = no_decimal (rw (digits_broken k h (no_digit (get_or word i 0) e), and_false (leb 1 (length word) && no_leading_zero word)))

    pub too_large : length word ≤ i → most < value → None ≡ number_in most word
    too_large whole h = larger (rw (digits_all k whole).1 h)

    -- A word that fits.
    pub all_digits : value ≤ most → length word ≤ i → 1 ≤ length word → no_leading_zero word ≡ true → Some value ≡ number_in most word
    unfolding number_in fits is_decimal
    all_digits small h long first =
        let d = digits_all k h in
        rw (d.0, d.1, first, le-leb 1 (length word) long, le-leb value most small)
