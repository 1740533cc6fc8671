-- A line of a letter and decimals: what is written has its form and is read back, and a line of the form is the one written from its values, and is not long. By
-- the words of the line, which are the letter and the decimals.
use mathlib.Core.Path.{◌≡◌, refl, sym, ap, ◌∙◌}
use mathlib.Core.Bool.{true, false, not, true≢false}
use mathlib.Core.List.{List, [], ◌∷◌, ◌++◌, map, map-map}
use Prim.Native.Nat.{ℕ, zero, suc, ◌+◌, ◌*◌, ◌≤◌}
use native.Mathlib.Omega.{arith}
use lib.Dec.{leb, eqb}
use lib.ListN.{length, replicate, length-append}
use borrow.Author.Tests.{leb-true, le-leb, eq-eqb}
use Rattle.model.specs.Lists.{concat, all, same}
use Rattle.text.specs.Decimal.{decimal}
use Rattle.text.specs.Number.{is_digit, is_decimal, value_of}
use Rattle.text.specs.Parts.{line_feed, space, words}
use Rattle.lists.proofs.Tests.{and_both, all_append, same_is}
use Rattle.image_laws.specs.InRange.{word_limit, Below}
use Rattle.text.proofs.Decimals.{length-decimal}
use Rattle.text.proofs.Values.{is_decimal_lem, value_decimal, decimal_value}
use Rattle.text.proofs.Joined.{without, separated, parts_joined, cut, decimal_without}
use Rattle.log_model.specs.Lines.{fits, fit_all, has_form, values_of}
use Rattle.log_model.specs.Written.{field_bytes, line_bytes}
use Rattle.log_laws.specs.Fits.{NoneAbove}

-- As many values as fields, and none too large for its field.
abbrev pub Fitting : List ℕ → List ℕ → Type 0
Fitting [] [] = Unit {0}
Fitting [] (value ∷ values) = ⊥
Fitting (most ∷ fields) [] = ⊥
Fitting (most ∷ fields) (value ∷ values) = (value ≤ most) × Fitting fields values

-- ---- the words of a line that is written
fields_separated : (values : List ℕ) → concat (map field_bytes values) ≡ separated space (map decimal values)
fields_separated values = ap concat (sym (map-map (λ word. space ∷ word) decimal values))

decimals_without : (separator : ℕ) → is_digit separator ≡ false → (values : List ℕ) → all (without separator) (map decimal values) ≡ true
unfolding all
decimals_without separator other [] = refl
decimals_without separator other (value ∷ values) = rw (decimal_without separator other value) (decimals_without separator other values)

words_written : (letter values : List ℕ) → without space letter ≡ true → words (line_bytes letter values) ≡ letter ∷ map decimal values
unfolding line_bytes
words_written letter values clean =
    rw (fields_separated values) (parts_joined space letter (map decimal values) clean (decimals_without space refl values))

values_back : (values : List ℕ) → map value_of (map decimal values) ≡ values
values_back [] = refl
values_back (value ∷ values) = rw (value_decimal value, values_back values)

decimals_fit : (fields values : List ℕ) → Fitting fields values → fit_all fields (map decimal values) ≡ true
unfolding fit_all fits
decimals_fit [] [] fit = refl
decimals_fit [] (value ∷ values) fit = absurd fit
decimals_fit (most ∷ fields) [] fit = absurd fit
decimals_fit (most ∷ fields) (value ∷ values) fit =
    rw (is_decimal_lem value, value_decimal value, le-leb value most fit.0) (decimals_fit fields values fit.1)

same_self : (l : List ℕ) → same l l ≡ true
unfolding same
same_self [] = refl
same_self (x ∷ l) = rw (eq-eqb x x refl) (same_self l)

module _ (letter values : List ℕ) (clean : without space letter ≡ true) where
  pub form_written : (fields : List ℕ) → Fitting fields values → has_form letter fields (line_bytes letter values) ≡ true
  unfolding has_form
  form_written fields fit = rw (words_written letter values clean, same_self letter) (decimals_fit fields values fit)

  pub other_letter : (other fields : List ℕ) → same letter other ≡ false → has_form other fields (line_bytes letter values) ≡ false
  unfolding has_form
  other_letter other fields e = rw (words_written letter values clean, e)

  pub values_written : values_of (line_bytes letter values) ≡ values
  unfolding values_of
  values_written = rw (words_written letter values clean) (values_back values)

-- No line feed stands in it.
fields_unbroken : (values : List ℕ) → without line_feed (concat (map field_bytes values)) ≡ true
unfolding all concat
fields_unbroken [] = refl
fields_unbroken (value ∷ values) =
    all_append (λ b. not (eqb b line_feed)) (decimal value) (concat (map field_bytes values))
    ∙ rw (decimal_without line_feed refl value) (fields_unbroken values)

pub line_unbroken : (letter values : List ℕ) → without line_feed letter ≡ true → without line_feed (line_bytes letter values) ≡ true
unfolding line_bytes
line_unbroken letter values clean =
    all_append (λ b. not (eqb b line_feed)) letter (concat (map field_bytes values)) ∙ rw clean (fields_unbroken values)

-- ---- a line of the form, from its values
words_fit : (fields : List ℕ) (words : List (List ℕ)) → fit_all fields words ≡ true → Fitting fields (map value_of words)
unfolding fit_all fits
words_fit [] [] e = tt
words_fit [] (word ∷ words) e = absurd (true≢false (sym e))
words_fit (most ∷ fields) [] e = absurd (true≢false (sym e))
words_fit (most ∷ fields) (word ∷ words) e =
    let both = and_both (fits most word) (fit_all fields words) e in
    (leb-true (value_of word) most (and_both (is_decimal word) (leb (value_of word) most) both.0).1, words_fit fields words both.1)

words_back : (fields : List ℕ) (words : List (List ℕ)) → fit_all fields words ≡ true → map decimal (map value_of words) ≡ words
unfolding fit_all fits
words_back [] [] e = refl
words_back [] (word ∷ words) e = absurd (true≢false (sym e))
words_back (most ∷ fields) [] e = absurd (true≢false (sym e))
words_back (most ∷ fields) (word ∷ words) e =
    let both = and_both (fits most word) (fit_all fields words) e in
    rw (decimal_value word (and_both (is_decimal word) (leb (value_of word) most) both.0).0, words_back fields words both.1)

pub record HasForm (letter fields line : List ℕ) : Type 0 where
  pub is_line : line_bytes letter (values_of line) ≡ line
  pub values_fit : Fitting fields (values_of line)

pub form_tells : (letter fields line : List ℕ) → has_form letter fields line ≡ true → HasForm letter fields line
unfolding has_form values_of line_bytes
form_tells letter fields line e =
    let c = cut space line in
    let both = and_both (same c.first letter) (fit_all fields c.later) (rw c.split at e) in
    record {
      is_line = rw (c.split, fields_separated, words_back fields c.later both.1, ← same_is c.first letter both.0) (sym c.whole);
      values_fit = rw c.split (words_fit fields c.later both.1);
    }

-- ---- values and fields
pub fitting_count : (fields values : List ℕ) → Fitting fields values → length values ≡ length fields
fitting_count [] [] fit = refl
fitting_count [] (value ∷ values) fit = absurd fit
fitting_count (most ∷ fields) [] fit = absurd fit
fitting_count (most ∷ fields) (value ∷ values) fit = ap suc (fitting_count fields values fit.1)

pub fitting_append : (fields more values others : List ℕ) → Fitting fields values → Fitting more others → Fitting (fields ++ more) (values ++ others)
fitting_append [] more [] others fit rest = rest
fitting_append [] more (value ∷ values) others fit rest = absurd fit
fitting_append (most ∷ fields) more [] others fit rest = absurd fit
fitting_append (most ∷ fields) more (value ∷ values) others fit rest = (fit.0, fitting_append fields more values others fit.1 rest)

pub fitting_row : (most n : ℕ) (values : List ℕ) → length values ≡ n → NoneAbove most values → Fitting (replicate n most) values
fitting_row most zero [] long none = tt
fitting_row most (suc n) [] long none = absurd (let z : ⊥ = omega arith in z)
fitting_row most zero (value ∷ values) long none = absurd (let z : ⊥ = omega arith in z)
fitting_row most (suc n) (value ∷ values) long none = (none 0, fitting_row most n values (omega arith) (λ i. none (suc i)))

-- A value of 32 bits has at most ten digits, and a space stands before them.
fields_length : (fields values : List ℕ) → Below word_limit fields → Fitting fields values → length (concat (map field_bytes values)) ≤ 11 * length fields
unfolding concat
fields_length [] [] small fit = omega arith
fields_length [] (value ∷ values) small fit = absurd fit
fields_length (most ∷ fields) [] small fit = absurd fit
fields_length (most ∷ fields) (value ∷ values) small fit =
    let digits = length-decimal 9 value (omega (arith, small 0, fit.0)) in
    omega (arith, length-append (decimal value) (concat (map field_bytes values)), fields_length fields values (λ i. small (suc i)) fit.1)

pub form_length : (letter fields line : List ℕ) → Below word_limit fields → has_form letter fields line ≡ true → length line ≤ length letter + 11 * length fields
unfolding line_bytes
form_length letter fields line small e =
    let form = form_tells letter fields line e in
    let after_letter = fields_length fields (values_of line) small form.values_fit in
    omega (arith, ap length form.is_line, length-append letter (concat (map field_bytes (values_of line))))
