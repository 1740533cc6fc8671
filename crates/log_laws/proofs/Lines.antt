-- The three lines of a log. What is written of a station count or a call has its form and is read back; a line of the form is the one written from what it
-- says; and such a line is short. By the laws of a letter and decimals, and by the places of an order's values.
use mathlib.Core.Path.{◌≡◌, refl, sym, ◌∙◌}
use mathlib.Core.Bool.{true, false, cond, or-true, or-false}
use mathlib.Core.List.{List, [], ◌∷◌, ◌++◌}
use Prim.Native.Nat.{ℕ, zero, suc, ◌+◌, ◌*◌, ◌≤◌, ◌<◌}
use native.Mathlib.Omega.{arith}
use lib.Dec.{leb}
use lib.ListN.{length, get_or, take, drop, replicate, length-append, length-replicate, length-drop, take-append-drop}
use lib.Seq.{take_at, drop_at, get_or-drop}
use borrow.Author.Tests.{leb-true, le-leb}
use Rattle.model.specs.Limits.{max_stations}
use Rattle.model.specs.Lists.{within, all, same}
use Rattle.image_laws.specs.InRange.{word_limit, Below}
use Rattle.text.specs.Ascii.{ascii}
use Rattle.text.specs.Parts.{line_feed}
use Rattle.lists.proofs.Tests.{and_both, either}
use Rattle.image_laws.proofs.Rows.{below_listed, below_append}
use Rattle.text.proofs.Joined.{without}
use Rattle.log_model.specs.Limits.{most8, most16, most32, max_line}
use Rattle.log_model.specs.Lines.{has_form, values_of, stations_of, is_stations, order_fields, is_offer, is_advance, Line, offered, advanced, offered_by, line_of}
use Rattle.log_model.specs.Output.{is_call}
use Rattle.log_model.specs.Written.{line_bytes, stations_bytes, call_bytes}
use Rattle.log_laws.specs.Fits.{OfferFits, LineFits}
use Rattle.log_laws.proofs.Forms.{Fitting, form_written, other_letter, values_written, line_unbroken, form_tells, fitting_count, fitting_append, fitting_row, form_length}

-- ---- lines of one value: the station count, and a done advance
one_value : (most : ℕ) (values : List ℕ) → Fitting (most ∷ []) values → get_or values 0 0 ∷ [] ≡ values
one_value most [] fit = absurd fit
one_value most (value ∷ []) fit = refl
one_value most (value ∷ next ∷ values) fit = absurd fit.1

one_back : (letter line : List ℕ) → has_form letter (most32 ∷ []) line ≡ true → line_bytes letter (get_or (values_of line) 0 0 ∷ []) ≡ line
one_back letter line e =
    let form = form_tells letter (most32 ∷ []) line e in
    rw (one_value most32 (values_of line) form.values_fit) form.is_line

one_short : (letter line : List ℕ) → length letter ≡ 1 → has_form letter (most32 ∷ []) line ≡ true → length line < max_line
one_short letter line one e = omega (arith, form_length letter (most32 ∷ []) line (below_listed (omega arith) (most32 ∷ []) (omega arith)) e)

pub stations_read : (n : ℕ) → stations_of (stations_bytes n) ≡ n
unfolding stations_of all
stations_read n = rw (values_written (ascii "N") (n ∷ []) refl)

pub stations_written : (n : ℕ) → 1 ≤ n → n ≤ max_stations → is_stations (stations_bytes n) ≡ true
unfolding is_stations all
stations_written n low high =
    rw (form_written (ascii "N") (n ∷ []) refl (most32 ∷ []) (omega arith), stations_read n, le-leb 1 n low) (le-leb n max_stations high)

pub stations_unbroken : (n : ℕ) → without line_feed (stations_bytes n) ≡ true
unfolding all
stations_unbroken n = line_unbroken (ascii "N") (n ∷ []) refl

module _ (line : List ℕ) (e : is_stations line ≡ true) where
  stations_form : (has_form (ascii "N") (most32 ∷ []) line ≡ true) × (within 1 max_stations (stations_of line) ≡ true)
  unfolding is_stations
  stations_form = and_both (has_form (ascii "N") (most32 ∷ []) line) (within 1 max_stations (stations_of line)) e

  pub stations_range : (1 ≤ stations_of line) × (stations_of line ≤ max_stations)
  stations_range =
      let both = and_both (leb 1 (stations_of line)) (leb (stations_of line) max_stations) stations_form.1 in
      (leb-true 1 (stations_of line) both.0, leb-true (stations_of line) max_stations both.1)

  pub stations_back : stations_bytes (stations_of line) ≡ line
  unfolding stations_of
  stations_back = one_back (ascii "N") line stations_form.0

  pub stations_short : length line < max_line
  stations_short = one_short (ascii "N") line refl stations_form.0

-- ---- an order's values, by their places
order_places : (n due_in : ℕ) (l : List ℕ) → offered_by n (due_in ∷ l) ≡ offered due_in (take n l) (take n (drop n l)) (get_or (drop n (drop n l)) 0 0) (get_or (drop n (drop n l)) 1 0)
unfolding offered_by
order_places n due_in l =
    let costs : 1 + n ≡ suc n = omega arith in
    let number : 1 + 2 * n ≡ suc (n + (n + 0)) = omega arith in
    let ticket : 2 + 2 * n ≡ suc (n + (n + 1)) = omega arith in
    rw (costs, number, ticket, get_or-drop n (drop n l) 0 0, get_or-drop n l (n + 0) 0, get_or-drop n (drop n l) 1 0, get_or-drop n l (n + 1) 0)

abbrev order_values : ℕ → List ℕ → List ℕ → ℕ → ℕ → List ℕ
order_values due_in ranks costs number ticket = due_in ∷ (ranks ++ (costs ++ (number ∷ ticket ∷ [])))

module _ (n due_in : ℕ) (ranks costs : List ℕ) (number ticket : ℕ) (fit : OfferFits n due_in ranks costs number ticket) where
  order_read : offered_by n (order_values due_in ranks costs number ticket) ≡ offered due_in ranks costs number ticket
  order_read =
      let last = number ∷ ticket ∷ [] in
      let r = fit.ranks_count in
      let c = fit.costs_count in
      order_places n due_in (ranks ++ (costs ++ last))
      ∙ rw (take_at ranks (costs ++ last) n r, drop_at ranks (costs ++ last) n r, take_at costs last n c, drop_at costs last n c)

  order_fitting : Fitting (order_fields n) (order_values due_in ranks costs number ticket)
  unfolding order_fields
  order_fitting =
      let last : Fitting (most32 ∷ most32 ∷ []) (number ∷ ticket ∷ []) = omega (arith, fit.number_fits, fit.ticket_fits) in
      let of_costs = fitting_row most16 n costs fit.costs_count fit.costs_fit in
      let of_ranks = fitting_row most8 n ranks fit.ranks_count fit.ranks_fit in
      let from_costs = fitting_append (replicate n most16) (most32 ∷ most32 ∷ []) costs (number ∷ ticket ∷ []) of_costs last in
      let from_ranks = fitting_append (replicate n most8) (replicate n most16 ++ (most32 ∷ most32 ∷ [])) ranks (costs ++ (number ∷ ticket ∷ [])) of_ranks from_costs in
      (fit.due_in, from_ranks)

fields_count : (n : ℕ) → length (order_fields n) ≡ 3 + 2 * n
unfolding order_fields
fields_count n = simp (length-append, length-replicate) (omega arith)

two_values : (l : List ℕ) → length l ≡ 2 → get_or l 0 0 ∷ get_or l 1 0 ∷ [] ≡ l
two_values [] long = absurd (let z : ⊥ = omega arith in z)
two_values (x ∷ []) long = absurd (let z : ⊥ = omega arith in z)
two_values (x ∷ y ∷ []) long = refl
two_values (x ∷ y ∷ z ∷ l) long = absurd (let z : ⊥ = omega arith in z)

order_back : (n : ℕ) (values : List ℕ) → length values ≡ 3 + 2 * n → call_bytes (offered_by n values) ≡ line_bytes (ascii "O") values
unfolding call_bytes
order_back n [] long = absurd (let z : ⊥ = omega arith in z)
order_back n (due_in ∷ l) long =
    let last = drop n (drop n l) in
    let two : length last ≡ 2 = omega (arith, length-drop n (drop n l), length-drop n l) in
    rw (order_places n due_in l, two_values last two, take-append-drop n (drop n l), take-append-drop n l)

below_row : (n most : ℕ) → most < word_limit → Below word_limit (replicate n most)
below_row zero most small i = omega arith
below_row (suc n) most small zero = small
below_row (suc n) most small (suc i) = below_row n most small i

order_small : (n : ℕ) → Below word_limit (order_fields n)
unfolding order_fields
order_small n =
    let some : 0 < word_limit = omega arith in
    below_append some (most32 ∷ []) (replicate n most8 ++ (replicate n most16 ++ (most32 ∷ most32 ∷ [])))
    (below_listed some (most32 ∷ []) (omega arith))
    (below_append some (replicate n most8) (replicate n most16 ++ (most32 ∷ most32 ∷ []))
    (below_row n most8 (omega arith))
    (below_append some (replicate n most16) (most32 ∷ most32 ∷ [])
    (below_row n most16 (omega arith))
    (below_listed some (most32 ∷ most32 ∷ []) (omega arith))))

-- ---- the line of a call
pub call_written : (n : ℕ) (line : Line) → LineFits n line → is_call n (call_bytes line) ≡ true
unfolding is_call is_offer is_advance call_bytes all
call_written n (offered due_in ranks costs number ticket) fit =
    rw (form_written (ascii "O") (order_values due_in ranks costs number ticket) refl (order_fields n) (order_fitting n due_in ranks costs number ticket fit))
call_written n (advanced ticket) fit =
    rw (form_written (ascii "T") (ticket ∷ []) refl (most32 ∷ []) (omega arith)) (or-true (is_offer n (line_bytes (ascii "T") (ticket ∷ []))))

pub call_read : (n : ℕ) (line : Line) → LineFits n line → line_of n (call_bytes line) ≡ line
unfolding line_of is_advance call_bytes all same
call_read n (offered due_in ranks costs number ticket) fit =
    let values = order_values due_in ranks costs number ticket in
    rw (other_letter (ascii "O") values refl (ascii "T") (most32 ∷ []) refl, values_written (ascii "O") values refl)
    (order_read n due_in ranks costs number ticket fit)
call_read n (advanced ticket) fit =
    rw (form_written (ascii "T") (ticket ∷ []) refl (most32 ∷ []) (omega arith), values_written (ascii "T") (ticket ∷ []) refl)

pub call_unbroken : (line : Line) → without line_feed (call_bytes line) ≡ true
unfolding call_bytes all
call_unbroken (offered due_in ranks costs number ticket) = line_unbroken (ascii "O") (order_values due_in ranks costs number ticket) refl
call_unbroken (advanced ticket) = line_unbroken (ascii "T") (ticket ∷ []) refl

-- A call that is no advance is an offer.
call_offers : (n : ℕ) (line : List ℕ) → is_call n line ≡ true → is_advance line ≡ false → has_form (ascii "O") (order_fields n) line ≡ true
unfolding is_call is_offer
call_offers n line e other = sym (or-false (has_form (ascii "O") (order_fields n) line)) ∙ rw other at e

pub call_back : (n : ℕ) (line : List ℕ) → is_call n line ≡ true → call_bytes (line_of n line) ≡ line
unfolding line_of call_bytes is_advance
call_back n line e =
    either (λ b. call_bytes (cond b (advanced (get_or (values_of line) 0 0)) (offered_by n (values_of line))) ≡ line) (is_advance line)
    (λ t. one_back (ascii "T") line t)
    (λ t.
    let form = form_tells (ascii "O") (order_fields n) line (call_offers n line e t) in
    order_back n (values_of line) (fitting_count (order_fields n) (values_of line) form.values_fit ∙ fields_count n) ∙ form.is_line)

pub form_short : (n : ℕ) → n ≤ max_stations → (line : List ℕ) → is_call n line ≡ true → length line < max_line
unfolding is_advance
form_short n high line e =
    either (λ b. length line < max_line) (is_advance line)
    (λ t. one_short (ascii "T") line refl t)
    (λ t. omega (arith, fields_count n, form_length (ascii "O") (order_fields n) line (order_small n) (call_offers n line e t)))
