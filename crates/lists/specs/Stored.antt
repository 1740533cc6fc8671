-- Stores into a list, as the contracts of writers say them.
use Rattle.std.specs.Prelude.{◌≡◌, List, ℕ, ◌+◌, length}
use Rattle.std.proofs.lemmas.List.Edits.{sets}

-- m is l with vs stored from place i on, and nothing else changed.
pub record Stored (l : List ℕ) (i : ℕ) (vs m : List ℕ) : Type 0 where
  pub is : m ≡ sets l i vs

-- The same, where end is the place after the last one stored.
pub record Put (l : List ℕ) (i : ℕ) (vs : List ℕ) (end : ℕ) (m : List ℕ) : Type 0 where
  pub place : end ≡ i + length vs
  pub bytes : Stored l i vs m
