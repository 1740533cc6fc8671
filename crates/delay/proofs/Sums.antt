-- Sums over lists and over stations.
use mathlib.Core.Path.{◌≡◌, refl, ap}
use mathlib.Core.Logic.{◌⊎◌, inl, inr}
use mathlib.Core.Bool.{Bool, true, false}
use mathlib.Core.List.Memᴰ
use mathlib.Core.List.{List, [], ◌∷◌, ◌++◌, map}
use Prim.Native.Nat.{ℕ, zero, suc, ◌+◌, ◌-◌, ◌≤◌}
use native.Mathlib.Omega.{arith}
use lib.ListN.{get_or, take}
use Rattle.model.specs.Lists.{at, total, only}
use Rattle.schedule.specs.Valid.{◌∈◌}
use Rattle.schedule.proofs.Laws.{test, only_yes, only_no}
use Rattle.delay.specs.Bound.{up_to}

-- ---- a figure added up over a list
module _ {A : Type 0} where
  pub total_member : (f : A → ℕ) {a : A} {l : List A} → a ∈ l → f a ≤ total (map f l)
  unfolding total
  total_member f (Memᴰ.head {xs = xs} e) = omega (arith, ap f e)
  total_member f (Memᴰ.tail m) = omega (arith, total_member f m)

  pub total_mono : (f g : A → ℕ) (l : List A) → ((a : A) → a ∈ l → f a ≤ g a) → total (map f l) ≤ total (map g l)
  unfolding total
  total_mono f g [] h = omega arith
  total_mono f g (x ∷ xs) h = omega (arith, h x (Memᴰ.head refl), total_mono f g xs (λ a m. h a (Memᴰ.tail m)))

  -- one member's figure falls by d: so does the sum
  pub total_gap : (f g : A → ℕ) (d : ℕ) (l : List A) → ((a : A) → a ∈ l → f a ≤ g a) → (b : A) → b ∈ l → f b + d ≤ g b → total (map f l) + d ≤ total (map g l)
  unfolding total
  total_gap f g d [] h b m gap = absurd (Memᴰ.not-nil m)
  total_gap f g d (x ∷ xs) h b m gap = go (total_gap f g d xs (λ a q. h a (Memᴰ.tail q)) b) (Memᴰ.cases_cons m)
    where
      go : (b ∈ xs → f b + d ≤ g b → total (map f xs) + d ≤ total (map g xs)) → (b ≡ x) ⊎ (b ∈ xs) → total (map f (x ∷ xs)) + d ≤ total (map g (x ∷ xs))
      go ih (inl e) = omega (arith, ap f e, ap g e, total_mono f g xs (λ a q. h a (Memᴰ.tail q)))
      go ih (inr q) = omega (arith, ih q gap, h x (Memᴰ.head refl))

  pub total_append : (f : A → ℕ) (l r : List A) → total (map f (l ++ r)) ≡ total (map f l) + total (map f r)
  unfolding total
  total_append f [] r = omega arith
  total_append f (x ∷ xs) r = omega (arith, total_append f xs r)

  pub total_one : (f : A → ℕ) (a : A) → total (map f (a ∷ [])) ≡ f a
  unfolding total
  total_one f a = omega arith

  pub total_only : (p : A → Bool) (f : A → ℕ) (l : List A) → total (map f (only p l)) ≤ total (map f l)
  unfolding only total
  total_only p f [] = omega arith
  total_only p f (x ∷ xs) = go (total_only p f xs) (test (p x))
    where
      go : total (map f (only p xs)) ≤ total (map f xs) → (p x ≡ true) ⊎ (p x ≡ false) → total (map f (only p (x ∷ xs))) ≤ total (map f (x ∷ xs))
      go ih (inl e) = rw (only_yes p x xs e) (omega arith)
      go ih (inr e) = rw (only_no p x xs e) (omega arith)

pub map-map : {A B C : Type 0} (f : B → C) (g : A → B) (l : List A) → map f (map g l) ≡ map (λ a. f (g a)) l
map-map f g [] = refl
map-map {C = C} f g (x ∷ xs) = ap {B = List C} (λ r. f (g x) ∷ r) (map-map f g xs)

-- ---- a figure added up over the stations
pub up_to_suc : (f : ℕ → ℕ) (k : ℕ) → up_to f (suc k) ≡ up_to f k + f k
unfolding up_to
up_to_suc f k = refl

pub up_to_mono : (f g : ℕ → ℕ) (k : ℕ) → ((j : ℕ) → f j ≤ g j) → up_to f k ≤ up_to g k
unfolding up_to
up_to_mono f g zero h = omega arith
up_to_mono f g (suc k) h = omega (arith, up_to_mono f g k h, h k)

pub up_to_both : (f g : ℕ → ℕ) (k : ℕ) → up_to (λ j. f j + g j) k ≡ up_to f k + up_to g k
unfolding up_to
up_to_both f g zero = refl
up_to_both f g (suc k) = omega (arith, up_to_both f g k)

pub up_to_zero : (k : ℕ) → up_to (λ j. 0) k ≡ 0
unfolding up_to
up_to_zero zero = refl
up_to_zero (suc k) = omega (arith, up_to_zero k)

up_to_first : (f : ℕ → ℕ) (k : ℕ) → up_to f (suc k) ≡ f 0 + up_to (λ j. f (suc j)) k
unfolding up_to
up_to_first f zero = omega arith
up_to_first f (suc k) = omega (arith, up_to_first f k)

up_to_get_d : (l : List ℕ) (k : ℕ) → up_to (λ j. get_or l j 0) k ≡ total (take k l)
unfolding total up_to
up_to_get_d l zero = refl
up_to_get_d [] (suc k) = up_to_zero (suc k)
up_to_get_d (x ∷ xs) (suc k) = omega (arith, up_to_first (λ j. get_or (x ∷ xs) j 0) k, up_to_get_d xs k)

-- the delay bound's second part: the entries of the stations before n
pub up_to_at : (l : List ℕ) (n : ℕ) → 1 ≤ n → up_to (at 0 l) n ≡ total (take (n - 1) l)
up_to_at l zero h = absurd (omega arith)
up_to_at l (suc k) h =
    let e : suc k - 1 ≡ k = omega arith in
    rw e (omega (arith, up_to_first (at 0 l) k, up_to_get_d l k))
