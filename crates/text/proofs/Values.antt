-- A decimal says its number, and a word of the form is the decimal of its value. A number goes by its tenths, a word digit by digit.
use mathlib.Core.Path.{◌≡◌, sym, ◌∙◌}
use mathlib.Core.Bool.{true, false, not, ◌&&◌, or-true, true≢false}
use mathlib.Core.List.{List, [], ◌∷◌, ◌++◌, foldl, foldl-append, append-nil, append_assoc}
use Prim.Native.Nat.{ℕ, zero, suc, ◌-◌, ◌/◌, ◌%◌, ◌≤◌, ◌<◌}
use native.Mathlib.Nat.{mod-lt, div-mul-le_self, div-add-mod', le-div_iff_mul-le, mul-add-div_right, mul-add-mod_self_right, div-eq_of_lt, mod-eq_of_lt}
use native.Mathlib.Omega.{arith}
use lib.Dec.{leb, ltb, eqb}
use lib.ListN.{length, get_or, get_or-append}
use borrow.Author.Tests.{ltb-true, ltb-false, leb-true, le-leb, eqb-false, ne_eqb, not-true}
use Rattle.model.specs.Lists.{all}
use Rattle.lists.proofs.Tests.{and_both, all_more, either}
use Rattle.text.specs.Decimal.{digit, decimal}
use Rattle.text.specs.Number.{is_digit, no_leading_zero, is_decimal, appended, value_of}
use Rattle.text.proofs.Decimals.{decimal_one, decimal_more, length-one, length_more}

-- A fact of every number: of those of one digit, and of a larger one if it holds of its tenth.
by_tenths : (P : ℕ → Type 0) → ((n : ℕ) → n < 10 → P n) → ((n : ℕ) → 10 ≤ n → P (n / 10) → P n) → (n : ℕ) → P n
by_tenths P one more n = below n n (omega arith)
  where
    below : (k n : ℕ) → n ≤ k → P n
    below zero n h = one n (omega arith)
    below (suc k) n h =
        either (λ b. P n) (ltb n 10)
        (λ e. one n (ltb-true n 10 e))
        (λ e. let large : 10 ≤ n = ltb-false n 10 e in more n large (below k (n / 10) (omega (arith, div-mul-le_self n 10))))

-- ---- a decimal has the form
is_digit_lem : (d : ℕ) → d < 10 → is_digit (digit d) ≡ true
is_digit_lem d h = rw (le-leb (digit 0) (digit d) (omega arith), le-leb (digit d) (digit 9) (omega arith))

digit_only : (d : ℕ) → d < 10 → all is_digit (digit d ∷ []) ≡ true
unfolding all
digit_only d h = rw (is_digit_lem d h)

pub decimal_digits : (n : ℕ) → all is_digit (decimal n) ≡ true
decimal_digits = by_tenths (λ n. all is_digit (decimal n) ≡ true) one more
  where
    one : (n : ℕ) → n < 10 → all is_digit (decimal n) ≡ true
    one n h = rw (decimal_one n h) (digit_only n h)

    more : (n : ℕ) → 10 ≤ n → all is_digit (decimal (n / 10)) ≡ true → all is_digit (decimal n) ≡ true
    more n h e = rw (decimal_more n h, all_more is_digit (decimal (n / 10)) (digit (n % 10)), e) (is_digit_lem (n % 10) (mod-lt n (omega arith)))

decimal_some : (n : ℕ) → 0 < length (decimal n)
decimal_some = by_tenths (λ n. 0 < length (decimal n)) (λ n h. omega (arith, length-one n h)) (λ n h some. omega (arith, length_more n h))

first_digit : (n : ℕ) → 1 ≤ n → get_or (decimal n) 0 0 ≡ digit 0 → ⊥
first_digit = by_tenths (λ n. 1 ≤ n → get_or (decimal n) 0 0 ≡ digit 0 → ⊥) one more
  where
    one : (n : ℕ) → n < 10 → 1 ≤ n → get_or (decimal n) 0 0 ≡ digit 0 → ⊥
    one n h low e = let z : digit n ≡ digit 0 = rw (decimal_one n h) at e in omega arith

    more : (n : ℕ) → 10 ≤ n → (1 ≤ n / 10 → get_or (decimal (n / 10)) 0 0 ≡ digit 0 → ⊥) → 1 ≤ n → get_or (decimal n) 0 0 ≡ digit 0 → ⊥
    more n h tenth low e =
        let same : get_or (decimal n) 0 0 ≡ get_or (decimal (n / 10)) 0 0 =
        rw (decimal_more n h) (get_or-append (decimal (n / 10)) (digit (n % 10) ∷ []) 0 0 (decimal_some (n / 10))) in
        tenth ((le-div_iff_mul-le (omega arith)).1 (omega arith)) (sym same ∙ e)

no_leading_zero_lem : (n : ℕ) → no_leading_zero (decimal n) ≡ true
no_leading_zero_lem n =
    either (λ b. no_leading_zero (decimal n) ≡ true) (ltb n 10)
    (λ e. rw (length-one n (ltb-true n 10 e)))
    (λ e.
    let large : 10 ≤ n = ltb-false n 10 e in
    rw (ne_eqb (get_or (decimal n) 0 0) (digit 0) (first_digit n (omega arith))) (or-true (eqb (length (decimal n)) 1)))

pub is_decimal_lem : (n : ℕ) → is_decimal (decimal n) ≡ true
unfolding is_decimal
is_decimal_lem n = rw (le-leb 1 (length (decimal n)) (decimal_some n), no_leading_zero_lem n) (decimal_digits n)

-- ---- it says its number
value_one : (d : ℕ) → value_of (d ∷ []) ≡ d - digit 0
unfolding value_of
value_one d = omega arith

value_more : (w : List ℕ) (d : ℕ) → value_of (w ++ (d ∷ [])) ≡ appended (value_of w) d
unfolding value_of
value_more w d = foldl-append appended 0 w (d ∷ [])

pub value_decimal : (n : ℕ) → value_of (decimal n) ≡ n
value_decimal = by_tenths (λ n. value_of (decimal n) ≡ n) one more
  where
    one : (n : ℕ) → n < 10 → value_of (decimal n) ≡ n
    one n h = rw (decimal_one n h, value_one (digit n)) (omega arith)

    more : (n : ℕ) → 10 ≤ n → value_of (decimal (n / 10)) ≡ n / 10 → value_of (decimal n) ≡ n
    more n h e = rw (decimal_more n h, value_more (decimal (n / 10)) (digit (n % 10)), e) (omega (arith, div-add-mod' n 10))

-- ---- a word of the form is the decimal of its value
pub digit_range : (d : ℕ) → is_digit d ≡ true → (digit 0 ≤ d) × (d ≤ digit 9)
digit_range d e = let both = and_both (leb (digit 0) d) (leb d (digit 9)) e in (leb-true (digit 0) d both.0, leb-true d (digit 9) both.1)

digit_alone : (d : ℕ) → is_digit d ≡ true → decimal (appended 0 d) ≡ d ∷ []
digit_alone d e =
    let range = digit_range d e in
    let back : digit (appended 0 d) ≡ d = omega arith in
    decimal_one (appended 0 d) (omega arith) ∙ rw back

decimal_appended : (v d : ℕ) → 1 ≤ v → is_digit d ≡ true → decimal (appended v d) ≡ decimal v ++ (d ∷ [])
decimal_appended v d low e =
    let range = digit_range d e in
    let small : d - digit 0 < 10 = omega arith in
    let tenth : appended v d / 10 ≡ v = mul-add-div_right (omega arith) v (d - digit 0) ∙ omega (arith, div-eq_of_lt small) in
    let last : digit (appended v d % 10) ≡ d = rw (mul-add-mod_self_right v 10 (d - digit 0), mod-eq_of_lt small) (omega arith) in
    decimal_more (appended v d) (omega arith) ∙ rw (tenth, last)

decimal_onward : (w : List ℕ) (v : ℕ) → 1 ≤ v → all is_digit w ≡ true → decimal (foldl appended v w) ≡ decimal v ++ w
unfolding all
decimal_onward [] v low e = sym (append-nil (decimal v))
decimal_onward (d ∷ w) v low e =
    let both = and_both (is_digit d) (all is_digit w) e in
    decimal_onward w (appended v d) (omega arith) both.1 ∙ rw (decimal_appended v d low both.0) (append_assoc (decimal v) (d ∷ []) w)

pub decimal_value : (w : List ℕ) → is_decimal w ≡ true → decimal (value_of w) ≡ w
unfolding is_decimal all value_of
decimal_value [] e = absurd (true≢false (sym e))
decimal_value (d ∷ []) e = digit_alone d (and_both (is_digit d) true e).0
decimal_value (d ∷ c ∷ w) e =
    let long : eqb (suc (suc (length w))) 1 ≡ false = ne_eqb (suc (suc (length w))) 1 (λ z. omega arith) in
    let some : leb 1 (suc (suc (length w))) ≡ true = le-leb 1 (suc (suc (length w))) (omega arith) in
    let form = and_both (not (eqb d (digit 0))) (is_digit d && all is_digit (c ∷ w)) (rw (some, long) at e) in
    let digits = and_both (is_digit d) (all is_digit (c ∷ w)) form.1 in
    let range = digit_range d digits.0 in
    let other = eqb-false d (digit 0) (not-true (eqb d (digit 0)) form.0) in
    decimal_onward (c ∷ w) (appended 0 d) (omega arith) digits.1 ∙ rw (digit_alone d digits.0)
