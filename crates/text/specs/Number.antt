-- A word as an unsigned decimal: digits, no leading zero, and the value that they say.
use Rattle.std.specs.Prelude.{Bool, ◌&&◌, ◌||◌, not, ℕ, ◌+◌, ◌-◌, ◌*◌, length, get_or, leb, eqb}
use mathlib.Core.List.{List, foldl}
use Rattle.model.specs.Lists.{within, all}
use Rattle.text.specs.Decimal.{digit}

abbrev pub is_digit : ℕ → Bool
is_digit b = within (digit 0) (digit 9) b

-- "without leading zeros (a lone 0 has the form)"
abbrev pub no_leading_zero : List ℕ → Bool
no_leading_zero w = eqb (length w) 1 || not (eqb (get_or w 0 0) (digit 0))

-- A decimal of any length.
unfoldable pub is_decimal : List ℕ → Bool
is_decimal w = leb 1 (length w) && no_leading_zero w && all is_digit w

-- One digit more.
abbrev pub appended : ℕ → ℕ → ℕ
appended v d = v * 10 + (d - digit 0)

-- The value of a word of digits.
unfoldable pub value_of : List ℕ → ℕ
value_of w = foldl appended 0 w
