-- Rows one after the other, and one row more.
use mathlib.Core.Path.{◌≡◌}
use mathlib.Core.List.{List, [], ◌∷◌, ◌++◌, map, map-append}
use Prim.Native.Nat.{ℕ, ◌+◌, ◌*◌, ◌<◌}
use native.Mathlib.Numerals.{add-one}
use native.Mathlib.Omega.{arith}
use lib.ListN.{length, get_or, take, length-append}
use lib.Seq.{take-suc}
use Rattle.model.specs.Lists.{concat}
use Rattle.lists.proofs.Fills.{concat-append, concat-one}

pub rows_and : {A : Type 0} (bytes : A → List ℕ) (l : List A) (i : ℕ) (x : A) → i < length l → get_or l i x ≡ x → concat (map bytes (take (i + 1) l)) ≡ concat (map bytes (take i l)) ++ bytes x
rows_and bytes l i x low is =
    rw (add-one, take-suc l i x low, is, map-append, concat-append (map bytes (take i l)) (bytes x ∷ []), concat-one (bytes x))

pub length_rows_and : (a b : List ℕ) (size i : ℕ) → length a ≡ size * i → length b ≡ size → length (a ++ b) ≡ size * (i + 1)
length_rows_and a b size i p q = rw (length-append, p, q) (omega arith)
