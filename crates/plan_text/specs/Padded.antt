-- A list at the front of an array.
use Rattle.std.specs.Prelude.{List, ◌++◌, ℕ, ◌-◌, length, replicate}

-- An array of so many places: the list, and the same value in each place after it.
unfoldable pub padded : {A : Type 0} → ℕ → A → List A → List A
padded size blank l = l ++ replicate (size - length l) blank
