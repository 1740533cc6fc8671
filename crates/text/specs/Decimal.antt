-- A number in decimal, without leading zeros; 0 is the one digit 0.
use Rattle.std.specs.Prelude.{Bool, true, false, List, [], ◌∷◌, ◌++◌, ℕ, zero, suc, ◌+◌, ◌/◌, ◌%◌, ltb}

-- The ASCII code of a digit below ten.
abbrev pub digit : ℕ → ℕ
digit d = 48 + d

-- The digits of n, which is below ten where the test says so. The first number bounds the steps: n itself is always enough.
unfoldable pub digits : ℕ → Bool → ℕ → List ℕ
digits zero small n = digit n ∷ []
digits (suc k) true n = digit n ∷ []
digits (suc k) false n = digits k (ltb (n / 10) 10) (n / 10) ++ (digit (n % 10) ∷ [])

unfoldable pub decimal : ℕ → List ℕ
decimal n = digits n (ltb n 10) n
