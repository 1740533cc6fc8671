-- A text as the parts between separators: the lines of an input, the words of a line.
use Rattle.std.specs.Prelude.{Bool, true, false, ℕ, eqb}
use Rattle.std.specs.Prelude.{Option, Some, None}
use denote.Ref.{Bor}
use mathlib.Core.List.{List, [], ◌∷◌, drop_last}

-- A line feed ends a line, and a space stands between two words.
abbrev pub line_feed : ℕ
line_feed = 10

abbrev pub space : ℕ
space = 32

-- A separator opens a new part; another byte goes to the front of the part that follows it.
abbrev pub placed : Bool → ℕ → List (List ℕ) → List (List ℕ)
placed true b ps = [] ∷ ps
placed false b [] = []
placed false b (p ∷ ps) = (b ∷ p) ∷ ps

-- The parts of a text: one more than it has separators.
unfoldable pub parts : ℕ → List ℕ → List (List ℕ)
parts separator [] = [] ∷ []
parts separator (b ∷ bs) = placed (eqb b separator) b (parts separator bs)

-- The parts of what a separator is followed by, if there is one.
abbrev pub parts_after : ℕ → Option (Bor (List ℕ)) → List (List ℕ)
parts_after separator None = []
parts_after separator (Some rest) = parts separator rest.now

-- The last part: what stands after the last separator.
unfoldable pub last_of : List (List ℕ) → List ℕ
last_of [] = []
last_of (p ∷ []) = p
last_of (p ∷ q ∷ ps) = last_of (q ∷ ps)

-- The lines: all parts but the last, since a line feed ends each line.
unfoldable pub lines_of : List (List ℕ) → List (List ℕ)
lines_of ps = drop_last ps

unfoldable pub lines : List ℕ → List (List ℕ)
lines text = lines_of (parts line_feed text)

-- The words of a line, between single spaces.
abbrev pub words : List ℕ → List (List ℕ)
words line = parts space line
