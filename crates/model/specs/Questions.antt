-- Document 01, "The questions, first "no" decides", and the reply.
use Rattle.std.specs.Prelude.{Bool, true, false, List, [], ◌∷◌, ◌++◌, ℕ, ℤ, pos}
use Rattle.model.specs.Bytes.{four_bytes, bits32}

-- A question's answer, and the number that a "no" gives.
infix 20 ◌else◌
pub data Question : Type 0 where
  ◌else◌ : Bool → ℕ → Question

-- "first "no" decides"; 0 for done.
unfoldable pub first_no : List Question → ℕ
first_no [] = 0
first_no ((true else number) ∷ rest) = first_no rest
first_no ((false else number) ∷ rest) = number

-- What the reply holds beside the number.
pub record Answer : Type 0 where
  pub ticket : ℕ
  pub tick : ℕ
  pub margin : ℤ

-- "The reply holds number (0 for done), ticket, tick, margin (signed), 4 bytes each"
unfoldable pub reply_bytes : ℕ → Answer → List ℕ
reply_bytes number a = four_bytes number ++ four_bytes a.ticket ++ four_bytes a.tick ++ four_bytes (bits32 a.margin)

-- "open gives zeros"; "Declined: ticket and tick are 0, margin is 0 save for 11 and 12".
abbrev pub zeros : Answer
zeros = record { ticket = 0; tick = 0; margin = pos 0 }
