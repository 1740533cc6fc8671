-- Document 02, (i), "Order by paper format": the order that names a format, what is asked of it, and the order block that it stands for.
use Rattle.std.specs.Prelude.{◌≡◌, Bool, true, cond, ◌&&◌, List, [], ◌∷◌, ◌++◌, ℕ, ◌+◌, ◌/◌, length, take, drop, leb, eqb}
use Rattle.model.specs.declared.Block.{Block}
use Rattle.model.specs.Limits.{max_stations, max_format}
use Rattle.model.specs.Lists.{within, at, rounded_up, all, upward}
use Rattle.model.specs.Bytes.{eight_halves}
use Rattle.model.specs.State.{State}
use Rattle.model.specs.Layout.{sheet_size, sheet_fixed_at, sheet_speeds_at}
use Rattle.model.specs.Questions.{Question, ◌else◌}
use Rattle.model.specs.Admission.{block_questions, state_questions}

-- Document 02, (i): "An order may give an ISO 216 format (A1 to A5, B1 to B5), due-in, and one rank byte for all stations, beside a station sheet of 32 bytes:
-- eight fixed ticks, then eight speeds in millimetres per tick, 2 bytes each."
pub record FormatOrder : Type 0 where
  pub format : ℕ
  pub due_in : ℕ
  pub rank : ℕ
  pub sheet : List ℕ

unfoldable pub fixed_ticks : List ℕ → List ℕ
fixed_ticks sheet = eight_halves sheet sheet_fixed_at

unfoldable pub speeds : List ℕ → List ℕ
speeds sheet = eight_halves sheet sheet_speeds_at

-- Document 02, (i): "The long sides come from a table of ISO 216 sizes." In millimetres, of A1 to A5 and of B1 to B5.
abbrev pub long_sides : List ℕ
long_sides = 841 ∷ 594 ∷ 420 ∷ 297 ∷ 210 ∷ 1000 ∷ 707 ∷ 500 ∷ 353 ∷ 250 ∷ []

-- Document 02, (i): "Formats are numbered 1 to 10 in that order"
unfoldable pub long_side : ℕ → ℕ
long_side format = at 0 long_sides format

-- The rule of ISO 216: each long side is half of the one two formats before it in its series, rounded down.
unfoldable pub halving : List ℕ → Bool
halving [] = true
halving (a ∷ []) = true
halving (a ∷ b ∷ []) = true
halving (a ∷ b ∷ c ∷ l) = eqb c (a / 2) && halving (b ∷ c ∷ l)

-- The table has it in both series.
abbrev pub LongSidesHalve : Type 0
LongSidesHalve = (halving (take 5 long_sides) ≡ true) × (halving (drop 5 long_sides) ≡ true)

-- Document 02, (i): "Cost at a station is the fixed ticks plus long side divided by speed, rounded up." It is a number without a width: what no two bytes hold
-- is not cut, and out of range.
unfoldable pub format_cost : FormatOrder → ℕ → ℕ
format_cost f station = at 0 (fixed_ticks f.sheet) station + rounded_up (long_side f.format) (at 0 (speeds f.sheet) station)

-- A row of a block: an entry for each station from 1 to n. Document 02, (i): "block fields beyond N are zero"
unfoldable pub up_to_station : ℕ → (ℕ → ℕ) → List ℕ
up_to_station n entry = upward 1 max_stations (λ station. cond (leb station n) (entry station) 0)

-- The block that it stands for in a pipeline of n stations.
unfoldable pub format_block : ℕ → FormatOrder → Block
format_block n f = record { due_in = f.due_in; ranks = up_to_station n (λ station. f.rank); costs = up_to_station n (format_cost f) }

-- Document 02, (i): "Refused: 19 for another format, 20 for a speed of 0 at a station up to N; both directly after 5, 19 first. A sheet of another length gets 5,
-- and costs out of range still get 6."
unfoldable pub format_questions : (n format : ℕ) → List ℕ → List Question
format_questions n format sheet =
    (eqb (length sheet) sheet_size else 5)
    ∷ (within 1 max_format format else 19)
    ∷ (all (leb 1) (take n (speeds sheet)) else 20)
    ∷ []

unfoldable pub format_order_questions : State → FormatOrder → List Question
format_order_questions s f = let b = format_block s.n f in format_questions s.n f.format f.sheet ++ block_questions s.n b ++ state_questions s b
