-- What replaces R, for tasks in range: it does not fall as R rises, is never below the base, and is at most the largest response.
use mathlib.Core.Path.{◌≡◌, refl, ap}
use mathlib.Core.Bool.{true, false}
use mathlib.Core.List.{List, [], ◌∷◌, map}
use Prim.Native.Nat.{ℕ, zero, suc, ◌+◌, ◌-◌, ◌*◌, ◌≤◌, ◌<◌}
use native.Mathlib.Nat.{mul-le-mul, mul-le-mul_right, mul-add, suc-mul}
use native.Mathlib.Omega.{arith}
use lib.ListN.{length}
use Rattle.model.specs.Limits.{max_cost}
use Rattle.model.specs.Lists.{total, all}
use Rattle.lists.proofs.Tests.{and_both}
use Rattle.plan_model.specs.declared.Task.{Task}
use Rattle.plan_model.specs.Limits.{max_period}
use Rattle.plan_model.specs.Base.{largest_cost}
use Rattle.plan_model.specs.Response.{share, others, next, ends}
use Rattle.plan_model.specs.Plan.{in_range}
use Rattle.plan_model.specs.Meaning.{sequence, FirstEnd, max_base, max_response}
use Rattle.plan_model.proofs.Releases.{releases_most, releases_rise, releases_some}
use Rattle.plan_model.proofs.Ranges.{InRange, in_range_lem}
use Rattle.plan_model.proofs.Sequence.{Rises, not_ended, over}

-- All but one of the tasks.
pub all_others : {A : Type 0} (test : A → _) (k : ℕ) (l : List A) → all test l ≡ true → all test (others k l) ≡ true
unfolding all others
all_others test k [] e = e
all_others test zero (x ∷ l) e = (and_both (test x) (all test l) e).1
all_others test (suc k) (x ∷ l) e =
    let both = and_both (test x) (all test l) e in
    rw both.0 (all_others test k l both.1)

pub length-others : {A : Type 0} (k : ℕ) (l : List A) → k < length l → length (others k l) ≡ length l - 1
unfolding others
length-others k [] h = absurd (let z : ⊥ = omega arith in z)
length-others zero (x ∷ l) h = omega arith
length-others (suc k) (x ∷ l) h = omega (arith, length-others k l (omega arith), h)

pub others_map : {A B : Type 0} (f : A → B) (k : ℕ) (l : List A) → map f (others k l) ≡ others k (map f l)
unfolding others
others_map f k [] = refl
others_map f zero (x ∷ l) = refl
others_map f (suc k) (x ∷ l) = ap (λ m. f x ∷ m) (others_map f k l)

module _ (n : ℕ) where
  -- Figures of tasks in range, added up: where no task has the smaller by g, neither has the sum.
  pub totals_rise : (f g : Task → ℕ) → ((t : Task) → InRange n t → f t ≤ g t) → (tasks : List Task) → all (in_range n) tasks ≡ true → total (map f tasks) ≤ total (map g tasks)
  unfolding total all
  totals_rise f g rise [] e = omega arith
  totals_rise f g rise (t ∷ tasks) e =
      let both = and_both (in_range n t) (all (in_range n) tasks) e in
      omega (arith, rise t (in_range_lem n t both.0), totals_rise f g rise tasks both.1)

  times : (R : ℕ) (tasks : List Task) → total (map (λ t. R * largest_cost n t) tasks) ≡ R * total (map (largest_cost n) tasks)
  unfolding total
  times R [] = omega arith
  times R (t ∷ tasks) = rw (mul-add R (largest_cost n t) (total (map (largest_cost n) tasks)), times R tasks)

  -- The shares, by R, and against the largest costs.
  shares_rise : (R S : ℕ) (tasks : List Task) → R ≤ S → all (in_range n) tasks ≡ true → total (map (share n R) tasks) ≤ total (map (share n S) tasks)
  unfolding share
  shares_rise R S tasks h e =
      totals_rise (share n R) (share n S) (λ t r. mul-le-mul_right (largest_cost n t) (releases_rise R S t.deadline t.period r.period_low h)) tasks e

  shares_most : (R : ℕ) (tasks : List Task) → 1 ≤ R → all (in_range n) tasks ≡ true → total (map (share n R) tasks) ≤ R * total (map (largest_cost n) tasks)
  unfolding share
  shares_most R tasks h e =
      rw (← times R tasks)
      (totals_rise (share n R) (λ t. R * largest_cost n t) (λ t r. mul-le-mul_right (largest_cost n t) (releases_most R R t.deadline t.period r.period_low r.deadline_high h (omega arith))) tasks e)

  shares_least : (R : ℕ) (tasks : List Task) → 1 ≤ R → all (in_range n) tasks ≡ true → total (map (largest_cost n) tasks) ≤ total (map (share n R) tasks)
  unfolding share
  shares_least R tasks h e =
      totals_rise (largest_cost n) (share n R) (λ t r. omega (arith, mul-le-mul_right (largest_cost n t) (releases_some R t.deadline t.period h r.deadline_low r.period_low))) tasks e

  costs_most : (tasks : List Task) → all (in_range n) tasks ≡ true → total (map (largest_cost n) tasks) ≤ length tasks * max_cost
  unfolding total all
  costs_most [] e = omega arith
  costs_most (t ∷ tasks) e =
      let both = and_both (in_range n t) (all (in_range n) tasks) e in
      rw (suc-mul (length tasks) max_cost) (omega (arith, (in_range_lem n t both.0).cost_high, costs_most tasks both.1))

  module _ (rest : List Task) (ranged : all (in_range n) rest ≡ true) (base : ℕ) where
    pub next_rises : Rises (next n rest base)
    unfolding next
    next_rises R S h = omega (arith, shares_rise R S rest h ranged)

    pub next_from : (R : ℕ) → base ≤ next n rest base R
    unfolding next
    next_from R = omega arith

    next_most : (R : ℕ) → 1 ≤ R → next n rest base R ≤ base + R * total (map (largest_cost n) rest)
    unfolding next
    next_most R h = omega (arith, shares_most R rest h ranged)

    -- The largest response: R is the base, or replaces the base, or replaces an R below the deadline that a step reached. In the last case the largest costs
    -- of the others come to less than the deadline.
    module _ (deadline : ℕ) (short : deadline ≤ max_period) (few : length rest ≤ 31) (some : 1 ≤ base) (low : base ≤ max_base) where
      twice : (R : ℕ) → base ≤ R → next n rest base R < deadline → next n rest base (next n rest base R) ≤ max_response
      unfolding next
      twice R from below =
          let S = next n rest base R in
          let all-costs : total (map (largest_cost n) rest) ≤ max_period = omega (arith, shares_least R rest (omega arith) ranged) in
          let small : S ≤ max_period = omega arith in
          let product : S * total (map (largest_cost n) rest) ≤ max_period * max_period = mul-le-mul small all-costs in
          omega (arith, next_most S (omega arith))

      at_most : (k : ℕ) → ((j : ℕ) → j < k → ends (next n rest base) deadline (sequence (next n rest base) base j) ≡ false) → sequence (next n rest base) base k ≤ max_response
      unfolding sequence
      at_most zero before = omega arith
      at_most (suc zero) before =
          let all-costs : total (map (largest_cost n) rest) ≤ 31 * max_cost = omega (arith, costs_most rest ranged, mul-le-mul_right max_cost few) in
          let product : base * total (map (largest_cost n) rest) ≤ max_base * (31 * max_cost) = mul-le-mul low all-costs in
          omega (arith, next_most base some)
      at_most (suc (suc k)) before =
          let f = next n rest base in
          let R = sequence f base k in
          let S = f R in
          let below : S < deadline = (not_ended f deadline S (before (suc k) (omega arith))).0 in
          let from : base ≤ R = over f deadline next_rises base next_from k in
          twice R from below

      pub response_most : (R : ℕ) → FirstEnd (next n rest base) deadline base R → R ≤ max_response
      response_most R f = rw f.is (at_most f.place f.none_before)
