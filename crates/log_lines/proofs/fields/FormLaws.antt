-- The form of a line by its letter and its numbers: which form a line has whose first two bytes are compared, and what its words say where they all fit.
use mathlib.Core.Path.{◌≡◌, refl, sym, ap, ◌∙◌}
use mathlib.Core.Bool.{Bool, true, false, ◌&&◌}
use mathlib.Core.List.{List, [], ◌∷◌, ◌++◌, map}
use Prim.Native.Nat.{ℕ, zero, suc, ◌+◌, ◌*◌, ◌≤◌, ◌<◌}
use native.Mathlib.Omega.{arith}
use lib.Dec.{leb, eqb}
use lib.ListN.{length, get_or, take, drop, replicate, length-append, length-replicate, get_or-replicate, get_or-append}
use lib.Pointwise.{pointwise}
use lib.Seq.{get_or-append-add}
use borrow.Author.Tests.{eqb-true, leb-true, ne_eqb}
use Rattle.model.specs.Lists.{same}
use Rattle.text.specs.Number.{is_decimal, value_of}
use Rattle.text.specs.Numbers as numbers
use Rattle.text.specs.Parts.{space, placed, parts, words}
use Rattle.log_model.specs.Limits.{most8, most16, most32}
use Rattle.log_model.specs.Lines.{fits, fit_all, has_form, values_of, order_fields}
use Rattle.lists.proofs.Tests.{and_true, and_false, and_both}

-- The letters of a line: `N`, `O` and `T`.
abbrev pub letter_n : ℕ
letter_n = 78

abbrev pub letter_o : ℕ
letter_o = 79

abbrev pub letter_t : ℕ
letter_t = 84

-- A line that begins with a letter and a space, as `strip_prefix` finds it.
abbrev pub begins : ℕ → List ℕ → Bool
begins letter line = pointwise eqb (take 2 line) (letter ∷ space ∷ [])

pub begun : (letter : ℕ) (line : List ℕ) → begins letter line ≡ true → line ≡ letter ∷ space ∷ drop 2 line
begun letter [] is = cc
begun letter (b ∷ []) is = absurd (let z : false ≡ true = rw (and_false (eqb b letter)) at is in let w : ◌≡◌ {A = ℕ} 0 1 = cc in let v : ⊥ = omega arith in v)
begun letter (b ∷ c ∷ line) is =
    let both = and_both (eqb b letter) (eqb c space && true) is in
    rw (eqb-true b letter both.0, eqb-true c space (and_both (eqb c space) true both.1).0)

-- A line that begins with one letter begins with no other.
pub other_letter : (a b : ℕ) (line : List ℕ) → (a ≡ b → ⊥) → begins a line ≡ true → begins b line ≡ false
other_letter a b line other is = rw (begun a line is, ne_eqb a b other)

-- A line of a letter and numbers, by its words: the first word is of one byte where a space follows it.
module _ (letter most : ℕ) (fields : List ℕ) (other : letter ≡ space → ⊥) where
  abbrev form_of : List (List ℕ) → Bool
  form_of ws = same (get_or ws 0 []) (letter ∷ []) && fit_all (most ∷ fields) (drop 1 ws)

  one_byte_lem : (t : Bool) (b : ℕ) → form_of (placed t b ([] ∷ [])) ≡ false
  unfolding same fit_all
  one_byte_lem true b = refl
  one_byte_lem false b = and_false (eqb b letter && true)

  two_bytes_lem : (t u : Bool) (b c : ℕ) (ws : List (List ℕ)) → (t ≡ true → eqb b letter ≡ false) → form_of (placed t b (placed u c ws)) ≡ (eqb b letter && u && fit_all (most ∷ fields) ws)
  unfolding same
  two_bytes_lem true u b c ws is = rw (is refl)
  two_bytes_lem false true b c ws is = rw (and_true (eqb b letter))
  two_bytes_lem false false b c [] is = rw (and_false (eqb b letter))
  two_bytes_lem false false b c (w ∷ ws) is = rw (and_false (eqb b letter))

  pub form_by_letter : (line : List ℕ) → has_form (letter ∷ []) (most ∷ fields) line ≡ (begins letter line && fit_all (most ∷ fields) (words (drop 2 line)))
  unfolding has_form parts same
  form_by_letter [] = refl
  form_by_letter (b ∷ []) = one_byte_lem (eqb b space) b ∙ rw (and_false (eqb b letter))
  form_by_letter (b ∷ c ∷ line) =
      two_bytes_lem (eqb b space) (eqb c space) b c (words line) (λ e. ne_eqb b letter (λ is. other (sym is ∙ eqb-true b space e))) ∙ rw (and_true (eqb c space))

after_letter : (letter : ℕ) (line : List ℕ) → (letter ≡ space → ⊥) → values_of (letter ∷ space ∷ line) ≡ map value_of (words line)
unfolding values_of parts
after_letter letter line other = rw (ne_eqb letter space other)

pub values_by_letter : (letter : ℕ) (line : List ℕ) → (letter ≡ space → ⊥) → begins letter line ≡ true → values_of line ≡ map value_of (words (drop 2 line))
values_by_letter letter line other is = ap values_of (begun letter line is) ∙ after_letter letter (drop 2 line) other

-- The words of a line's fields fit them as those of a line of numbers fit these.
pub fit_same : (mosts : List ℕ) (ws : List (List ℕ)) → numbers.fit_all mosts ws ≡ fit_all mosts ws
unfolding numbers.fit_all numbers.fits fit_all fits
fit_same [] [] = refl
fit_same [] (w ∷ ws) = refl
fit_same (most ∷ mosts) [] = refl
fit_same (most ∷ mosts) (w ∷ ws) = rw (fit_same mosts ws)

-- The largest value of a rank and of a cost, by its place: one value n times, and a list after it.
module _ (n x : ℕ) (l : List ℕ) (j : ℕ) where
  among : j < n → get_or (replicate n x ++ l) j 0 ≡ x
  among h = get_or-append (replicate n x) l 0 j (omega (arith, length-replicate n x)) ∙ get_or-replicate n j x 0 h

  beyond : get_or (replicate n x ++ l) (n + j) 0 ≡ get_or l j 0
  beyond =
      let e : n + j ≡ length (replicate n x) + j = omega (arith, length-replicate n x) in
      rw e (get_or-append-add (replicate n x) l j 0)

abbrev last : List ℕ
last = most32 ∷ most32 ∷ []

pub rank_most : (n i : ℕ) → i < n → get_or (order_fields n) (1 + i) 0 ≡ most8
unfolding order_fields
rank_most n i h =
    let e : 1 + i ≡ suc i = omega arith in
    rw e (among n most8 (replicate n most16 ++ last) i h)

pub cost_most : (n i : ℕ) → i < n → get_or (order_fields n) (1 + n + i) 0 ≡ most16
unfolding order_fields
cost_most n i h =
    let e : 1 + n + i ≡ suc (n + i) = omega arith in
    rw e (beyond n most8 (replicate n most16 ++ last) i ∙ among n most16 last i h)

pub length_fields : (n : ℕ) → length (order_fields n) ≡ 2 * n + 3
unfolding order_fields
length_fields n =
    omega (arith, length-append (replicate n most8) (replicate n most16 ++ last), length-append (replicate n most16) last, length-replicate n most8, length-replicate n most16)

-- Words that all fit: there are as many as fields, and no value is larger than its field's.
pub fit_length : (fields : List ℕ) (ws : List (List ℕ)) → fit_all fields ws ≡ true → length ws ≡ length fields
unfolding fit_all
fit_length [] [] e = refl
fit_length [] (word ∷ ws) e = cc
fit_length (most ∷ fields) [] e = cc
fit_length (most ∷ fields) (word ∷ ws) e = ap suc (fit_length fields ws (and_both (fits most word) (fit_all fields ws) e).1)

pub fit_values : (fields : List ℕ) (ws : List (List ℕ)) → fit_all fields ws ≡ true → (k : ℕ) → get_or (map value_of ws) k 0 ≤ get_or fields k 0
unfolding fit_all fits
fit_values fields [] e k = omega arith
fit_values [] (word ∷ ws) e k = absurd (let z : ◌≡◌ {A = ℕ} 0 1 = cc in let w : ⊥ = omega arith in w)
fit_values (most ∷ fields) (word ∷ ws) e zero =
    leb-true (value_of word) most (and_both (is_decimal word) (leb (value_of word) most) (and_both (fits most word) (fit_all fields ws) e).0).1
fit_values (most ∷ fields) (word ∷ ws) e (suc k) = fit_values fields ws (and_both (fits most word) (fit_all fields ws) e).1 k
