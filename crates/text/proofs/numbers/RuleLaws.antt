-- The two rules of documents 01 and 02 about a number's size: by its digits, and by its value. "1 to 9 digits" is at most 999,999,999. And a line of so many
-- numbers of one rule.
use mathlib.Core.Path.{◌≡◌, refl, sym, ap, ◌∙◌}
use mathlib.Core.Bool.{Bool, true, false, ◌&&◌}
use mathlib.Core.List.{List, [], ◌∷◌, foldl}
use Prim.Native.Nat.{ℕ, zero, suc, ◌+◌, ◌*◌, ◌^◌, ◌≤◌, ◌<◌}
use native.Mathlib.Nat.{pow-suc, pow-le-pow_right, mul-le-mul_right, mul_assoc, mul_comm}
use native.Mathlib.Omega.{arith}
use lib.Dec.{leb, eqb, eqb-suc-suc, eqb-suc-zero, eqb-zero-suc}
use lib.ListN.{length, replicate}
use borrow.Author.Tests.{leb-true, leb-false, le-leb, lt-leb}
use Rattle.model.specs.Lists.{within, all}
use Rattle.lists.proofs.Tests.{and_true, and_false, and_both, and_assoc, either}
use Rattle.text.specs.Number.{is_digit, no_leading_zero, is_decimal, appended, value_of}
use Rattle.text.specs.Numbers.{fits, fit_all}
use Rattle.text.proofs.Decimals.{length-decimal}
use Rattle.text.proofs.Values.{decimal_value, digit_range}

value_below : (w : List ℕ) (v : ℕ) → all is_digit w ≡ true → foldl appended v w < (v + 1) * 10 ^ length w
unfolding all
value_below [] v e = omega arith
value_below (d ∷ w) v e =
    let both = and_both (is_digit d) (all is_digit w) e in
    let range = digit_range d both.0 in
    let step : (appended v d + 1) * 10 ^ length w ≤ ((v + 1) * 10) * 10 ^ length w = mul-le-mul_right (10 ^ length w) (omega arith) in
    let power : 10 ^ suc (length w) ≡ 10 * 10 ^ length w = pow-suc 10 (length w) ∙ mul_comm (10 ^ length w) 10 in
    let whole : (v + 1) * 10 ^ suc (length w) ≡ ((v + 1) * 10) * 10 ^ length w = rw power (sym (mul_assoc (v + 1) 10 (10 ^ length w))) in
    omega (arith, value_below w (appended v d) both.1, step, whole)

digits_of : (w : List ℕ) → is_decimal w ≡ true → all is_digit w ≡ true
unfolding is_decimal
digits_of w e = (and_both (leb 1 (length w) && no_leading_zero w) (all is_digit w) e).1

-- Nine digits of a decimal, and its value.
module _ (w : List ℕ) (e : is_decimal w ≡ true) where
  few_small : length w ≤ 9 → value_of w ≤ 999999999
  unfolding value_of
  few_small few =
      let power : 10 ^ length w ≤ 10 ^ 9 = pow-le-pow_right (omega arith) {i = length w} {j = 9} few in
      omega (arith, value_below w 0 (digits_of w e), power)

  small_few : value_of w ≤ 999999999 → length w ≤ 9
  small_few small = omega (arith, ap length (decimal_value w e), length-decimal 8 (value_of w) (omega arith))

  many_large : 9 < length w → 999999999 < value_of w
  many_large many =
      either (λ b. 999999999 < value_of w) (leb (value_of w) 999999999)
      (λ small. absurd (let few : length w ≤ 9 = small_few (leb-true (value_of w) 999999999 small) in let z : ⊥ = omega arith in z))
      (λ large. leb-false (value_of w) 999999999 large)

  nine : leb (value_of w) 999999999 ≡ leb (length w) 9
  nine =
      either (λ b. leb (value_of w) 999999999 ≡ b) (leb (length w) 9)
      (λ few. le-leb (value_of w) 999999999 (few_small (leb-true (length w) 9 few)))
      (λ many. lt-leb (value_of w) 999999999 (many_large (leb-false (length w) 9 many)))

last_first : (a b c d : Bool) → (a && b && c && d) ≡ (a && c && d && b)
last_first true true c d = sym (and_true (c && d))
last_first true false c d = sym (and_false (c && d))
last_first false b c d = refl

by_digits : (w : List ℕ) → (is_decimal w && leb (length w) 9) ≡ (within 1 9 (length w) && no_leading_zero w && all is_digit w)
unfolding is_decimal
by_digits w = sym (last_first (leb 1 (length w)) (leb (length w) 9) (no_leading_zero w) (all is_digit w))

by_value : (w : List ℕ) (t : Bool) → is_decimal w ≡ t → fits 999999999 w ≡ (is_decimal w && leb (length w) 9)
unfolding fits
by_value w true e = rw (e, nine w e)
by_value w false e = rw e

pub nine_digits : (w : List ℕ) → fits 999999999 w ≡ (within 1 9 (length w) && no_leading_zero w && all is_digit w)
nine_digits w = by_value w (is_decimal w) refl ∙ by_digits w

-- A line of so many numbers of one rule.
pub same_rule : (most n : ℕ) (ws : List (List ℕ)) → fit_all (replicate n most) ws ≡ (all (fits most) ws && eqb (length ws) n)
unfolding fit_all all
same_rule most zero [] = refl
same_rule most zero (w ∷ ws) = rw (eqb-suc-zero (length ws)) (sym (and_false (fits most w && all (fits most) ws)))
same_rule most (suc n) [] = sym (eqb-zero-suc n)
same_rule most (suc n) (w ∷ ws) = rw (same_rule most n ws, eqb-suc-suc (length ws) n) (sym (and_assoc (fits most w) (all (fits most) ws) (eqb (length ws) n)))
