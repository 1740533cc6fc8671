-- What a line records, by its first two bytes and what `numbers_in` gives of the bytes after them. Zeros after a line's values change none of them.
use mathlib.Core.Path.{◌≡◌, refl, sym, ◌∙◌}
use mathlib.Core.Bool.{Bool, true, false, cond}
use mathlib.Core.List.{List, [], ◌∷◌, ◌++◌}
use Prim.Native.Nat.{ℕ, zero, suc, ◌+◌, ◌*◌, ◌-◌, ◌≤◌}
use native.Mathlib.Omega.{arith}
use lib.ListN.{length, get_or, drop, replicate, length-drop, length-map}
use lib.Seq.{take-append-le, drop-append-le}
use Rattle.std.specs.Bool.{then_some}
use Rattle.std.specs.Prelude.{Option, Some, None}
use Rattle.model.specs.declared.Block.{Block}
use Rattle.model.specs.Limits.{max_stations}
use Rattle.model.specs.Lists.{part, within}
use Rattle.text.specs.Numbers as numbers
use Rattle.text.specs.Parts.{space, words}
use Rattle.log_model.specs.Limits.{most32}
use Rattle.log_model.specs.Lines.{has_form, values_of, stations_of, is_stations, fit_all, order_fields, is_offer, is_advance, line_of, offered_by}
use Rattle.log_model.specs.Output.{is_call}
use Rattle.log_lines.specs.declared.fields.Recorded.TheVariants.{Offered, Advanced}
use Rattle.log_lines.specs.Orders.{OrderFits, order_of, max_fields}
use Rattle.log_lines.specs.Recorded.{call_in, stations_in}
use Rattle.log_lines.proofs.fields.FormLaws.{letter_n, letter_o, letter_t, begins, other_letter, form_by_letter, values_by_letter, fit_same, rank_most, cost_most, length_fields, fit_length, fit_values}

-- An answer that is there only where a test holds.
pub none_case : {A : Type 0} (t : Bool) (x : A) → cond t (Some x) None ≡ None → t ≡ false
none_case true x e = cc
none_case false x e = refl

pub some_case : {A : Type 0} (t : Bool) (x y : A) → cond t (Some x) None ≡ Some y → (t ≡ true) × (x ≡ y)
some_case true x y e = (refl, cc)
some_case false x y e = (cc, cc)

then_cond : (t : Bool) (x : ℕ) → then_some t x ≡ cond t (Some x) None
then_cond true x = refl
then_cond false x = refl

get_d_padded : (l : List ℕ) (m k : ℕ) → get_or (l ++ replicate m 0) k 0 ≡ get_or l k 0
get_d_padded [] zero k = refl
get_d_padded [] (suc m) zero = refl
get_d_padded [] (suc m) (suc k) = get_d_padded [] m k
get_d_padded (x ∷ l) m zero = refl
get_d_padded (x ∷ l) m (suc k) = get_d_padded l m k

part_padded : (l m : List ℕ) (at n : ℕ) → at + n ≤ length l → part (l ++ m) at n ≡ part l at n
part_padded l m at n h = rw (drop-append-le at l m (omega arith), take-append-le n (drop at l) m (rw length-drop (omega arith)))

-- A line that begins with a letter and a space.
module _ (letter most : ℕ) (fields line : List ℕ) (other : letter ≡ space → ⊥) (is : begins letter line ≡ true) (places : ℕ) {read : Option (List ℕ)} (given : read ≡ numbers.numbers_in places (most ∷ fields) (drop 2 line)) where
  form : has_form (letter ∷ []) (most ∷ fields) line ≡ numbers.fit_all (most ∷ fields) (words (drop 2 line))
  form = form_by_letter letter most fields other line ∙ rw (is, fit_same (most ∷ fields) (words (drop 2 line)))

  pub unformed : read ≡ None → has_form (letter ∷ []) (most ∷ fields) line ≡ false
  unfolding numbers.numbers_in
  unformed e = form ∙ none_case _ _ (sym given ∙ e)

  module _ {values : List ℕ} (e : read ≡ Some values) where
    pub formed : has_form (letter ∷ []) (most ∷ fields) line ≡ true
    unfolding numbers.numbers_in
    formed = form ∙ (some_case _ _ _ (sym given ∙ e)).0

    fitted : fit_all (most ∷ fields) (words (drop 2 line)) ≡ true
    unfolding numbers.numbers_in
    fitted = sym (fit_same (most ∷ fields) (words (drop 2 line))) ∙ (some_case _ _ _ (sym given ∙ e)).0

    pub padded : values ≡ values_of line ++ replicate (places - length (words (drop 2 line))) 0
    unfolding numbers.numbers_in
    padded = rw (values_by_letter letter line other is) (sym (some_case _ _ _ (sym given ∙ e)).1)

    pub value_read : (k : ℕ) → get_or (values_of line) k 0 ≡ get_or values k 0
    value_read k = sym (rw padded (get_d_padded (values_of line) (places - length (words (drop 2 line))) k))

    pub values_count : length (values_of line) ≡ length (most ∷ fields)
    values_count = rw (values_by_letter letter line other is, length-map) (fit_length (most ∷ fields) (words (drop 2 line)) fitted)

    pub value_fits : (k : ℕ) → get_or values k 0 ≤ get_or (most ∷ fields) k 0
    value_fits k = rw (← value_read k, values_by_letter letter line other is) (fit_values (most ∷ fields) (words (drop 2 line)) fitted k)

-- A first line: one of another letter has not the form, nor has one without a number, and else its count decides.
module _ (line : List ℕ) where
  pub no_count : begins letter_n line ≡ false → None ≡ stations_in line
  unfolding stations_in is_stations
  no_count not_n = rw (form_by_letter letter_n most32 [] (λ e. omega arith) line, not_n)

  module _ (is : begins letter_n line ≡ true) {read : Option (List ℕ)} (given : read ≡ numbers.numbers_in 1 (most32 ∷ []) (drop 2 line)) where
    pub count_malformed : read ≡ None → None ≡ stations_in line
    unfolding stations_in is_stations
    count_malformed e = rw (unformed letter_n most32 [] line (λ e. omega arith) is 1 given e)

    pub count_read : {values : List ℕ} → read ≡ Some values → then_some (within 1 max_stations (get_or values 0 0)) (get_or values 0 0) ≡ stations_in line
    unfolding stations_in is_stations stations_of
    count_read {values} e =
        rw (then_cond, formed letter_n most32 [] line (λ e. omega arith) is 1 given e, value_read letter_n most32 [] line (λ e. omega arith) is 1 given e 0)

-- A later line of another letter than `T`, and of neither letter.
module _ (n : ℕ) (line : List ℕ) where
  not_advance : begins letter_t line ≡ false → is_advance line ≡ false
  unfolding is_advance
  not_advance not_t = rw (form_by_letter letter_t most32 [] (λ e. omega arith) line, not_t)

  pub no_call : begins letter_t line ≡ false → begins letter_o line ≡ false → None ≡ call_in n line
  unfolding call_in is_call is_offer order_fields
  no_call not_t not_o = rw (not_advance not_t, form_by_letter letter_o most32 _ (λ e. omega arith) line, not_o)

  -- A line of an advance.
  module _ (is : begins letter_t line ≡ true) {read : Option (List ℕ)} (given : read ≡ numbers.numbers_in 1 (most32 ∷ []) (drop 2 line)) where
    not_offer : is_offer n line ≡ false
    unfolding is_offer order_fields
    not_offer = rw (form_by_letter letter_o most32 _ (λ e. omega arith) line, other_letter letter_t letter_o line (λ e. omega arith) is)

    pub advance_malformed : read ≡ None → None ≡ call_in n line
    unfolding call_in is_call is_advance
    advance_malformed e = rw (not_offer, unformed letter_t most32 [] line (λ e. omega arith) is 1 given e)

    pub advance_read : {values : List ℕ} → read ≡ Some values → Some (Advanced (get_or values 0 0)) ≡ call_in n line
    unfolding call_in is_call is_advance line_of
    advance_read e = rw (not_offer, formed letter_t most32 [] line (λ e. omega arith) is 1 given e, value_read letter_t most32 [] line (λ e. omega arith) is 1 given e 0)

  -- A line of an offer.
  module _ (few : n ≤ max_stations) (not_t : begins letter_t line ≡ false) (is : begins letter_o line ≡ true) {read : Option (List ℕ)} (given : read ≡ numbers.numbers_in max_fields (order_fields n) (drop 2 line)) where
    pub offer_malformed : read ≡ None → None ≡ call_in n line
    unfolding call_in is_call is_offer order_fields
    offer_malformed e = rw (not_advance not_t, unformed letter_o most32 _ line (λ e. omega arith) is max_fields given e)

    module _ {values : List ℕ} (e : read ≡ Some values) where
      is_offered : is_offer n line ≡ true
      unfolding is_offer order_fields
      is_offered = formed letter_o most32 _ line (λ e. omega arith) is max_fields given e

      value_is : (k : ℕ) → get_or (values_of line) k 0 ≡ get_or values k 0
      unfolding order_fields
      value_is k = value_read letter_o most32 _ line (λ e. omega arith) is max_fields given e k

      part_is : (at : ℕ) → at + n ≤ 2 * n + 3 → part values at n ≡ part (values_of line) at n
      unfolding order_fields
      part_is at h =
          let long = values_count letter_o most32 _ line (λ e. omega arith) is max_fields given e in
          rw (padded letter_o most32 _ line (λ e. omega arith) is max_fields given e) (part_padded (values_of line) _ at n (omega (arith, long, length_fields n)))

      pub offer_read : {o : Block} → o ≡ order_of n values → Some (Offered o (get_or values (1 + 2 * n) 0) (get_or values (2 + 2 * n) 0)) ≡ call_in n line
      unfolding call_in is_call line_of offered_by
      offer_read made =
          rw (made, not_advance not_t, is_offered, value_is 0, value_is (1 + 2 * n), value_is (2 + 2 * n), part_is 1 (omega arith), part_is (1 + n) (omega arith))

      fits_field : (k : ℕ) → get_or values k 0 ≤ get_or (order_fields n) k 0
      unfolding order_fields
      fits_field k = value_fits letter_o most32 _ line (λ e. omega arith) is max_fields given e k

      pub offer_fits : OrderFits n values
      offer_fits =
          record {
            stations = few;
            ranks = λ i h. omega (arith, fits_field (1 + i), rank_most n i h);
            costs = λ i h. omega (arith, fits_field (1 + n + i), cost_most n i h);
          }
