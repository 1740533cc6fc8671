-- What is drawn, case by case, and the costs as an array that is filled from the front.
use Rattle.std.proofs.Common.{◌≡◌, ℕ, ◌+◌, ◌<◌, ◌≤◌, List, [], ◌∷◌, length, take, set, refl, ap, ◌∙◌, add-one, arith, length-set}
use Rattle.model.specs.Lists.{upward}
use Rattle.lists.proofs.Fills.{fill_start, fill_next, fill_end}
use Rattle.trials.specs.Draw.{stepped, after, cost, costs}

-- Where the two bits of each rank begin.
abbrev pub units : List ℕ
units = 65536 ∷ 262144 ∷ 1048576 ∷ 4194304 ∷ 16777216 ∷ 67108864 ∷ 268435456 ∷ 1073741824 ∷ []

-- The loop over the stations: the seed has made so many steps, and so many costs are drawn.
pub record Drawing (seed n most k : ℕ) (row : List ℕ) (s : ℕ) : Type 0 where
  pub inside : k ≤ 8
  pub seed_is : s ≡ after k seed
  pub long : length row ≡ 8
  pub drawn : take k row ≡ upward 0 k (λ k. cost (after (k + 1) seed) n most k)

pub drawing_start : (seed n most : ℕ) (row : List ℕ) → length row ≡ 8 → Drawing seed n most 0 row seed
unfolding after
drawing_start seed n most row h =
    record { inside = omega arith; seed_is = refl; long = h; drawn = fill_start (λ k. cost (after (k + 1) seed) n most k) }

pub drawing_next : {seed n most k s t v : ℕ} {row : List ℕ} → Drawing seed n most k row s → k < 8 → t ≡ stepped s → v ≡ cost t n most k → Drawing seed n most (k + 1) (set row k v) t
unfolding after
drawing_next {seed} {n} {most} {k} {s} {t} {v} {row} d h e q =
    let now : t ≡ after (k + 1) seed = rw add-one (e ∙ ap stepped d.seed_is) in
    record {
      inside = omega arith;
      seed_is = now;
      long = length-set row k v ∙ d.long;
      drawn = fill_next (λ k. cost (after (k + 1) seed) n most k) row k v (omega (arith, d.long)) d.drawn (q ∙ ap (λ (x : ℕ). cost x n most k) now);
    }

pub drawing_end : {seed n most k s : ℕ} {row : List ℕ} → Drawing seed n most k row s → 8 ≤ k → row ≡ costs seed n most
unfolding costs
drawing_end {seed} {n} {most} {k} {s} {row} d h =
    let all : k ≡ 8 = omega (arith, d.inside) in
    fill_end (λ k. cost (after (k + 1) seed) n most k) row 8 d.long (rw all at d.drawn)
