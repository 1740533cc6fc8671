-- Document 02, (iv): the lines of a log, their form, and what each of them records.
use Rattle.std.specs.Prelude.{Bool, true, false, cond, ◌&&◌, List, [], ◌∷◌, ◌++◌, map, ℕ, ◌+◌, ◌*◌, ◌-◌, length, get_or, drop, replicate, leb}
use Rattle.model.specs.Limits.{max_stations}
use Rattle.model.specs.Lists.{within, part, same}
use Rattle.model.specs.Admission.{block_bytes}
use Rattle.model.specs.Calls.{Call, offering, advancing}
use Rattle.text.specs.Ascii.{ascii}
use Rattle.text.specs.Number.{is_decimal, value_of}
use Rattle.text.specs.Parts.{words}
use Rattle.log_model.specs.Limits.{most8, most16, most32}

-- Document 02, (iv): "all single-spaced decimals without leading zeros"; "a value too large for its field"
unfoldable pub fits : ℕ → List ℕ → Bool
fits most word = is_decimal word && leb (value_of word) most

-- As many words as fields, each with a value that is not too large for its field.
unfoldable pub fit_all : List ℕ → List (List ℕ) → Bool
fit_all [] [] = true
fit_all [] (word ∷ words) = false
fit_all (most ∷ fields) [] = false
fit_all (most ∷ fields) (word ∷ words) = fits most word && fit_all fields words

-- A line of a letter and such fields.
unfoldable pub has_form : List ℕ → List ℕ → List ℕ → Bool
has_form letter fields line = same (get_or (words line) 0 []) letter && fit_all fields (drop 1 (words line))

-- The values of its fields.
unfoldable pub values_of : List ℕ → List ℕ
values_of line = map value_of (drop 1 (words line))

-- Document 02, (iv): "first `N` and the station count"; "a station count outside 1 to 8"
unfoldable pub stations_of : List ℕ → ℕ
stations_of line = get_or (values_of line) 0 0

unfoldable pub is_stations : List ℕ → Bool
is_stations line = has_form (ascii "N") (most32 ∷ []) line && within 1 max_stations (stations_of line)

-- Document 02, (iv): "then a line `O` with due-in, N ranks, N costs, and the recorded number and ticket"
unfoldable pub order_fields : ℕ → List ℕ
order_fields n = most32 ∷ (replicate n most8 ++ (replicate n most16 ++ (most32 ∷ most32 ∷ [])))

unfoldable pub is_offer : ℕ → List ℕ → Bool
is_offer n line = has_form (ascii "O") (order_fields n) line

-- Document 02, (iv): "or a line `T` with the recorded ticket out"
unfoldable pub is_advance : List ℕ → Bool
is_advance line = has_form (ascii "T") (most32 ∷ []) line

-- What a line records: an offer of due-in, ranks and costs, and its number and ticket; or a done advance, and its ticket out.
pub data Line : Type 0 where
  offered : ℕ → List ℕ → List ℕ → ℕ → ℕ → Line
  advanced : ℕ → Line

unfoldable pub offered_by : ℕ → List ℕ → Line
offered_by n values = offered (get_or values 0 0) (part values 1 n) (part values (1 + n) n) (get_or values (1 + 2 * n) 0) (get_or values (2 + 2 * n) 0)

unfoldable pub line_of : ℕ → List ℕ → Line
line_of n line =
    let values = values_of line in
    cond (is_advance line) (advanced (get_or values 0 0)) (offered_by n values)

-- The call that it records. Of an order's block the fields beyond N are zero.
abbrev pub to_eight : List ℕ → List ℕ
to_eight l = l ++ replicate (max_stations - length l) 0

unfoldable pub call_of : Line → Call
call_of (offered due_in ranks costs number ticket) = offering (block_bytes (record { due_in = due_in; ranks = to_eight ranks; costs = to_eight costs }))
call_of (advanced ticket) = advancing

-- The number and the ticket that it records. Only an advance that was done, by number 0, has a line.
abbrev pub number_of : Line → ℕ
number_of (offered due_in ranks costs number ticket) = number
number_of (advanced ticket) = 0

abbrev pub ticket_of : Line → ℕ
ticket_of (offered due_in ranks costs number ticket) = ticket
ticket_of (advanced ticket) = ticket
