-- What is wrong with the rows of a record at one place, as one number that is 0 where nothing is.
use Rattle.std.specs.Prelude.{ℕ, ◌-◌}
use Rattle.std.specs.Int.Bits.{bit_or}

-- By how much a cost is below the least, above its maximum or above the sum, and a maximum above the most.
abbrev pub flaw_at : ℕ → ℕ → ℕ → ℕ → ℕ → ℕ
flaw_at least most cost maximum sum = bit_or (bit_or (bit_or (least - cost) (cost - maximum)) (maximum - most)) (cost - sum)
