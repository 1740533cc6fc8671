-- Entries by their numbers: one more.
use mathlib.Core.Path.{◌≡◌}
use mathlib.Core.List.{List, [], ◌∷◌, ◌++◌}
use Prim.Native.Nat.{ℕ, ◌+◌, ◌<◌}
use native.Mathlib.Nat.{zero-add}
use native.Mathlib.Numerals.{add-one}
use native.Mathlib.Omega.{arith}
use lib.ListN.{length, get_or, take}
use lib.Seq.{take-suc, length-take-le}
use Rattle.model.specs.Lists.{numbered}
use Rattle.lists.proofs.Tests.{numbered-append}

pub numbered_next : {A B : Type 0} (f : ℕ → A → B) (d : A) (xs : List A) (i : ℕ) → i < length xs → numbered f 0 (take (i + 1) xs) ≡ numbered f 0 (take i xs) ++ (f i (get_or xs i d) ∷ [])
unfolding numbered
numbered_next f d xs i h =
    rw (add-one i, take-suc xs i d h, numbered-append f 0 (take i xs) (get_or xs i d ∷ []), length-take-le i xs (omega arith), zero-add i)
