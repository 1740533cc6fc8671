-- There is always a part.
use mathlib.Core.Bool.{Bool, true, false}
use mathlib.Core.List.{List, [], ◌∷◌}
use Prim.Native.Nat.{ℕ, ◌<◌}
use native.Mathlib.Omega.{arith}
use lib.Dec.{eqb}
use lib.ListN.{length}
use Rattle.text.specs.Parts.{placed, parts}

some_placed : (t : Bool) (b : ℕ) (ps : List (List ℕ)) → 0 < length ps → 0 < length (placed t b ps)
some_placed true b ps h = omega arith
some_placed false b [] h = absurd (omega arith)
some_placed false b (p ∷ ps) h = omega arith

pub parts_some : (separator : ℕ) (text : List ℕ) → 0 < length (parts separator text)
unfolding parts
parts_some separator [] = omega arith
parts_some separator (b ∷ text) = some_placed (eqb b separator) b (parts separator text) (parts_some separator text)
