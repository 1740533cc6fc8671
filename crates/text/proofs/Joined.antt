-- A text is its parts with a separator between each two; and parts that hold no separator, so joined, are the parts of the text that they make. By going
-- down the text, or the first part.
use mathlib.Core.Path.{◌≡◌, refl, sym, ap, ◌∙◌}
use mathlib.Core.Bool.{Bool, true, false, not, true≢false}
use mathlib.Core.List.{List, [], ◌∷◌, ◌++◌, map, append-nil}
use Prim.Native.Nat.{ℕ}
use lib.Dec.{eqb}
use borrow.Author.Tests.{eqb-true, eq-eqb, ne_eqb, not-true}
use Rattle.model.specs.Lists.{concat, all}
use Rattle.lists.proofs.Tests.{and_both, either}
use Rattle.text.specs.Decimal.{decimal}
use Rattle.text.specs.Number.{is_digit}
use Rattle.text.specs.Parts.{parts}
use Rattle.text.proofs.Values.{decimal_digits}

-- No byte is the separator.
abbrev pub without : ℕ → List ℕ → Bool
without separator text = all (λ b. not (eqb b separator)) text

-- Parts with a separator before each.
abbrev pub separated : ℕ → List (List ℕ) → List ℕ
separated separator later = concat (map (λ part. separator ∷ part) later)

module _ (separator : ℕ) where
  parts_alone : (part : List ℕ) → without separator part ≡ true → parts separator part ≡ part ∷ []
  unfolding all parts
  parts_alone [] e = refl
  parts_alone (b ∷ part) e =
      let both = and_both (not (eqb b separator)) (without separator part) e in
      rw (not-true (eqb b separator) both.0, parts_alone part both.1)

  pub parts_before : (part text : List ℕ) → without separator part ≡ true → parts separator (part ++ (separator ∷ text)) ≡ part ∷ parts separator text
  unfolding all parts
  parts_before [] text e = rw (eq-eqb separator separator refl)
  parts_before (b ∷ part) text e =
      let both = and_both (not (eqb b separator)) (without separator part) e in
      rw (not-true (eqb b separator) both.0, parts_before part text both.1)

  pub parts_joined : (first : List ℕ) (later : List (List ℕ)) → without separator first ≡ true → all (without separator) later ≡ true → parts separator (first ++ separated separator later) ≡ first ∷ later
  unfolding all concat
  parts_joined first [] e each = rw (append-nil first) (parts_alone first e)
  parts_joined first (part ∷ later) e each =
      let both = and_both (without separator part) (all (without separator) later) each in
      parts_before first (part ++ separated separator later) e ∙ rw (parts_joined part later both.0 both.1)

  -- The first part of a text and those after it, and the text from them.
  pub record Cut (text : List ℕ) : Type 0 where
    pub first : List ℕ
    pub later : List (List ℕ)
    pub split : parts separator text ≡ first ∷ later
    pub whole : text ≡ first ++ separated separator later

  cut_more : (b : ℕ) (text : List ℕ) → Cut text → Cut (b ∷ text)
  unfolding parts concat
  cut_more b text c =
      either (λ t. Cut (b ∷ text)) (eqb b separator)
      (λ e.
      record {
        first = [];
        later = c.first ∷ c.later;
        split = rw (e, c.split);
        whole = rw (eqb-true b separator e) (ap (λ (l : List ℕ). separator ∷ l) c.whole);
      })
      (λ e.
      record { first = b ∷ c.first; later = c.later; split = rw (e, c.split); whole = ap (λ (l : List ℕ). b ∷ l) c.whole })

  pub cut : (text : List ℕ) → Cut text
  unfolding parts concat
  cut [] = record { first = []; later = []; split = refl; whole = refl }
  cut (b ∷ text) = cut_more b text (cut text)

-- A decimal holds no separator that is no digit.
digits_without : (separator : ℕ) → is_digit separator ≡ false → (w : List ℕ) → all is_digit w ≡ true → without separator w ≡ true
unfolding all
digits_without separator other [] e = refl
digits_without separator other (d ∷ w) e =
    let both = and_both (is_digit d) (all is_digit w) e in
    let differs : eqb d separator ≡ false = ne_eqb d separator (λ z. true≢false (sym both.0 ∙ ap is_digit z ∙ other)) in
    rw differs (digits_without separator other w both.1)

pub decimal_without : (separator : ℕ) → is_digit separator ≡ false → (n : ℕ) → without separator (decimal n) ≡ true
decimal_without separator other n = digits_without separator other (decimal n) (decimal_digits n)
