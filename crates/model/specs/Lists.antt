-- Words about lists and tests that document 01 takes for granted.
use Rattle.std.specs.Prelude.{Bool, true, false, cond, ◌&&◌, ◌||◌, List, [], ◌∷◌, ◌++◌, ℕ, zero, suc, ◌+◌, ◌-◌, ◌/◌, max, get_or, take, drop, leb, eqb}

-- low ≤ x ≤ high
abbrev pub within : ℕ → ℕ → ℕ → Bool
within low high x = leb low x && leb x high

abbrev pub is_zero : ℕ → Bool
is_zero x = eqb x 0

-- The entry of station k, counted from 1; d where there is none.
abbrev pub at : {A : Type 0} → A → List A → ℕ → A
at d l k = get_or (d ∷ l) k d

-- n entries from place i on, counted from 0.
abbrev pub part : {A : Type 0} → List A → ℕ → ℕ → List A
part l i n = take n (drop i l)

-- a / b, rounded up
unfoldable pub rounded_up : ℕ → ℕ → ℕ
rounded_up a b = (a + (b - 1)) / b

unfoldable pub total : List ℕ → ℕ
total [] = 0
total (x ∷ xs) = x + total xs

unfoldable pub largest : List ℕ → ℕ
largest [] = 0
largest (x ∷ xs) = max x (largest xs)

-- The larger of two lists' numbers, place by place.
unfoldable pub larger : List ℕ → List ℕ → List ℕ
larger [] ys = ys
larger (x ∷ xs) [] = x ∷ xs
larger (x ∷ xs) (y ∷ ys) = max x y ∷ larger xs ys

unfoldable pub concat : {A : Type 0} → List (List A) → List A
concat [] = []
concat (l ∷ ls) = l ++ concat ls

unfoldable pub all : {A : Type 0} → (A → Bool) → List A → Bool
all test [] = true
all test (x ∷ xs) = test x && all test xs

unfoldable pub any : {A : Type 0} → (A → Bool) → List A → Bool
any test [] = false
any test (x ∷ xs) = test x || any test xs

-- Whether a number is in a list.
unfoldable pub has : List ℕ → ℕ → Bool
unfolding any
has l x = any (eqb x) l

-- Whether two lists of numbers are the same.
unfoldable pub same : List ℕ → List ℕ → Bool
same [] [] = true
same [] (y ∷ ys) = false
same (x ∷ xs) [] = false
same (x ∷ xs) (y ∷ ys) = eqb x y && same xs ys

-- The entries that pass a test.
unfoldable pub only : {A : Type 0} → (A → Bool) → List A → List A
only test [] = []
only test (x ∷ xs) = let rest = only test xs in cond (test x) (x ∷ rest) rest

-- f k, f (k + 1), .. of the entries in turn.
unfoldable pub numbered : {A B : Type 0} → (ℕ → A → B) → ℕ → List A → List B
numbered f k [] = []
numbered f k (x ∷ xs) = f k x ∷ numbered f (suc k) xs

-- Whether each station's entry passes a test of the station and the entry.
unfoldable pub all_stations : {A : Type 0} → (ℕ → A → Bool) → List A → Bool
unfolding all numbered
all_stations test l = all (λ b. b) (numbered test 1 l)

-- f k, f (k + 1), .. : n of them.
unfoldable pub upward : {A : Type 0} → ℕ → ℕ → (ℕ → A) → List A
upward k zero f = []
upward k (suc n) f = f k ∷ upward (suc k) n f
