-- A line of numbers, word by word: form and values of the words that are left decide those of the whole.
use mathlib.Core.Path.{◌≡◌, refl, sym, ap, ◌∙◌}
use mathlib.Core.Bool.{Bool, true, false, cond, ◌&&◌}
use mathlib.Core.List.{List, [], ◌∷◌, ◌++◌, map, append-nil}
use Prim.Native.Nat.{ℕ, suc, ◌+◌, ◌-◌, ◌≤◌, ◌<◌}
use native.Mathlib.Nat.{sub-zero}
use native.Mathlib.Numerals.{add-one}
use native.Mathlib.Omega.{arith}
use lib.ListN.{length, get_or, set, drop, replicate, length-append, length-map, drop_of_length-le}
use lib.Seq.{append_snoc, drop-cons, set_at}
use Rattle.std.proofs.Common.{Option, Some, None}
use Rattle.text.specs.Number.{value_of}
use Rattle.text.specs.Parts.{words}
use Rattle.text.specs.Numbers.{fits, number_in, fit_all, numbers_in}

-- What an answer about a word tells.
some_case : (t : Bool) (v x : ℕ) → cond t (Some v) None ≡ Some x → (t ≡ true) × (v ≡ x)
some_case true v x e = (refl, cc)
some_case false v x e = absurd (let z : ⊥ = cc in z)

none_case : (t : Bool) (v : ℕ) → cond t (Some v) None ≡ None → t ≡ false
none_case true v e = absurd (let z : ⊥ = cc in z)
none_case false v e = refl

module _ (most : ℕ) (word : List ℕ) {answer : Option ℕ} (is : answer ≡ number_in most word) where
  pub was_number : {x : ℕ} → answer ≡ Some x → (fits most word ≡ true) × (value_of word ≡ x)
  unfolding number_in
  was_number {x} e = some_case (fits most word) (value_of word) x (sym is ∙ e)

  pub was_none : answer ≡ None → fits most word ≡ false
  unfolding number_in
  was_none e = none_case (fits most word) (value_of word) (sym is ∙ e)

-- The first k words fit, and their values are `read` and stand in the row; `left` are the words after them.
pub record Reading (most line : List ℕ) (places : ℕ) (numbers : List ℕ) (left : List (List ℕ)) (k : ℕ) : Type 0 where
  pub form : fit_all most (words line) ≡ fit_all (drop k most) left
  pub read : List ℕ
  pub long : length read ≡ k
  pub split : map value_of (words line) ≡ read ++ map value_of left
  pub stored : numbers ≡ read ++ replicate (places - k) 0

pub reading_none : (most line : List ℕ) (places : ℕ) → Reading most line places (replicate places 0) (words line) 0
reading_none most line places = record { form = refl; read = []; long = refl; split = refl; stored = rw sub-zero }

some_left : (ws : List (List ℕ)) → 0 < length ws → fit_all [] ws ≡ false
unfolding fit_all
some_left [] h = absurd (omega arith)
some_left (w ∷ ws) h = refl

module _ {most line : List ℕ} {places : ℕ} {numbers : List ℕ} {left : List (List ℕ)} {k : ℕ} (r : Reading most line places numbers left k) where
  unfit : fit_all (drop k most) left ≡ false → None ≡ numbers_in places most line
  unfolding numbers_in
  unfit e = rw (r.form, e)

  -- A number is left to be read: no word is, or the next word does not fit, or it does.
  module _ (less : k < length most) where
    pub too_few : left ≡ [] → None ≡ numbers_in places most line
    unfolding fit_all
    too_few e = unfit (rw (drop-cons most k 0 less, e))

    module _ {word : List ℕ} {rest : List (List ℕ)} (next : left ≡ word ∷ rest) where
      next_form : fit_all (drop k most) left ≡ (fits (get_or most k 0) word && fit_all (drop (k + 1) most) rest)
      unfolding fit_all
      next_form = rw (add-one, drop-cons most k 0 less, next)

      pub other_word : fits (get_or most k 0) word ≡ false → None ≡ numbers_in places most line
      other_word e = unfit (next_form ∙ rw e)

      pub reading_more : {value : ℕ} → (fits (get_or most k 0) word ≡ true) × (value_of word ≡ value) → length most ≤ places → Reading most line places (set numbers k value) rest (k + 1)
      reading_more {value} w room =
          let after = places - (k + 1) in
          let m : places - k ≡ suc after = omega arith in
          record {
            form = r.form ∙ next_form ∙ rw w.0;
            read = r.read ++ (value ∷ []);
            long = length-append r.read (value ∷ []) ∙ rw r.long;
            split = r.split ∙ rw (next, w.1) (sym (append_snoc r.read value (map value_of rest)));
            stored = rw (r.stored, m, set_at r.read 0 (replicate after 0) value k r.long) (sym (append_snoc r.read value (replicate after 0)));
          }

  -- All numbers are read: a word is left, or none.
  module _ (full : length most ≤ k) where
    pub too_many : 0 < length left → None ≡ numbers_in places most line
    too_many some = unfit (rw (drop_of_length-le most {i = k} full) (some_left left some))

    pub all_read : left ≡ [] → Some numbers ≡ numbers_in places most line
    unfolding numbers_in fit_all
    all_read none =
        let whole : map value_of (words line) ≡ r.read = r.split ∙ rw none (append-nil r.read) in
        let count : length (words line) ≡ k = sym (length-map (words line) value_of) ∙ ap length whole ∙ r.long in
        rw (r.form, drop_of_length-le most {i = k} full, none, whole, count, r.stored) refl
