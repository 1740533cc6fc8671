-- Bytes after others are fed to the state that these leave.
use mathlib.Core.Path.{◌≡◌, refl}
use mathlib.Core.List.{List, [], ◌∷◌, ◌++◌}
use Prim.Native.Nat.{ℕ}
use Rattle.log_model.specs.Reading.{Fed, fed_byte, fed_all}

pub fed_append : (f : Fed) (xs ys : List ℕ) → fed_all f (xs ++ ys) ≡ fed_all (fed_all f xs) ys
unfolding fed_all
fed_append f [] ys = refl
fed_append f (b ∷ xs) ys = fed_append (fed_byte f b) xs ys
