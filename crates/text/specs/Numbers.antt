-- Numbers of a bounded size, and a line of them with single spaces between.
use Rattle.std.specs.Prelude.{Bool, true, false, cond, Option, Some, None, ◌&&◌, List, [], ◌∷◌, ◌++◌, map, ℕ, ◌-◌, length, replicate, leb}
use Rattle.text.specs.Number.{is_decimal, value_of}
use Rattle.text.specs.Parts.{words}

-- A decimal whose value is at most a number.
unfoldable pub fits : ℕ → List ℕ → Bool
fits most word = is_decimal word && leb (value_of word) most

-- What a word says that is to be such a decimal.
unfoldable pub number_in : ℕ → List ℕ → Option ℕ
number_in most word = cond (fits most word) (Some (value_of word)) None

-- As many words as numbers, each a decimal of at most its number.
unfoldable pub fit_all : List ℕ → List (List ℕ) → Bool
fit_all [] [] = true
fit_all [] (word ∷ words) = false
fit_all (most ∷ mosts) [] = false
fit_all (most ∷ mosts) (word ∷ words) = fits most word && fit_all mosts words

-- What a line says whose words are to be such decimals: their values, at the front of a row of so many places, with zeros after them.
unfoldable pub numbers_in : ℕ → List ℕ → List ℕ → Option (List ℕ)
numbers_in places mosts line = cond (fit_all mosts (words line)) (Some (map value_of (words line) ++ replicate (places - length (words line)) 0)) None
