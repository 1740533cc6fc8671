-- What question 18 says of a task, and what follows for the base.
use mathlib.Core.Path.{◌≡◌}
use mathlib.Core.Bool.{true, ◌&&◌}
use mathlib.Core.List.{List, [], ◌∷◌, map}
use Prim.Native.Nat.{ℕ, zero, suc, ◌-◌, ◌*◌, ◌≤◌, max}
use native.Mathlib.Nat.{suc-mul}
use native.Mathlib.Omega.{arith}
use lib.ListN.{length, take, length-take}
use lib.Dec.{leb, eqb}
use borrow.Author.Tests.{leb-true, eqb-true}
use Rattle.model.specs.Limits.{max_stations, max_cost}
use Rattle.model.specs.Lists.{within, total, largest, larger, all}
use Rattle.model.specs.DelayBound.{maxima_of}
use Rattle.lists.proofs.Tests.{and_both}
use Rattle.lists.proofs.Maxima.{length-larger}
use Rattle.plan_model.specs.declared.Task.{Task}
use Rattle.plan_model.specs.Limits.{max_period}
use Rattle.plan_model.specs.Base.{largest_cost, stage_costs, stage_maxima, base}
use Rattle.plan_model.specs.Plan.{are_costs, in_range}
use Rattle.plan_model.specs.Meaning.{max_base}

pub inside : (low high x : ℕ) → within low high x ≡ true → (low ≤ x) × (x ≤ high)
inside low high x e =
    let both = and_both (leb low x) (leb x high) e in
    (leb-true low x both.0, leb-true x high both.1)

-- The largest of the first costs, where each is in range.
costs_under : (m n : ℕ) (l : List ℕ) → m ≤ n → all (within 1 max_cost) (take n l) ≡ true → largest (take m l) ≤ max_cost
unfolding all largest
costs_under zero n l h e = omega arith
costs_under (suc m) zero l h e = absurd (let z : ⊥ = omega arith in z)
costs_under (suc m) (suc n) [] h e = omega arith
costs_under (suc m) (suc n) (c ∷ l) h e =
    let both = and_both (within 1 max_cost c) (all (within 1 max_cost) (take n l)) e in
    omega (arith, (inside 1 max_cost c both.0).1, costs_under m n l (omega arith) both.1)

-- It is 1 or more, where there is one.
costs_over : (n : ℕ) (l : List ℕ) → 1 ≤ n → length l ≡ n → all (within 1 max_cost) l ≡ true → 1 ≤ largest l
unfolding all largest
costs_over n [] h long e = absurd (let z : ⊥ = omega arith in z)
costs_over n (c ∷ l) h long e =
    let both = and_both (within 1 max_cost c) (all (within 1 max_cost) l) e in
    omega (arith, (inside 1 max_cost c both.0).0)

pub record InRange (n : ℕ) (t : Task) : Type 0 where
  pub period_low : 1 ≤ t.period
  pub period_high : t.period ≤ max_period
  pub deadline_low : 1 ≤ t.deadline
  pub deadline_high : t.deadline ≤ t.period
  pub cost_low : 1 ≤ n → 1 ≤ largest_cost n t
  pub cost_high : largest_cost n t ≤ max_cost
  pub stages_high : largest (stage_costs n t) ≤ max_cost

pub in_range_lem : (n : ℕ) (t : Task) → in_range n t ≡ true → InRange n t
unfolding in_range largest_cost
in_range_lem n t e =
    let three = and_both (within 1 max_period t.period && within 1 t.period t.deadline) (are_costs n (take n t.costs)) e in
    let two = and_both (within 1 max_period t.period) (within 1 t.period t.deadline) three.0 in
    let period = inside 1 max_period t.period two.0 in
    let deadline = inside 1 t.period t.deadline two.1 in
    let costs = and_both (eqb (length (take n t.costs)) n) (all (within 1 max_cost) (take n t.costs)) three.1 in
    record {
      period_low = period.0;
      period_high = period.1;
      deadline_low = deadline.0;
      deadline_high = deadline.1;
      cost_low = λ h. costs_over n (take n t.costs) h (eqb-true (length (take n t.costs)) n costs.0) costs.1;
      cost_high = costs_under n n t.costs (omega arith) costs.1;
      stages_high = costs_under (n - 1) n t.costs (omega arith) costs.1;
    }

-- The base: at most the largest cost for each station.
largest_larger : (xs ys : List ℕ) → largest (larger xs ys) ≡ max (largest xs) (largest ys)
unfolding larger largest
largest_larger [] ys = omega arith
largest_larger (x ∷ xs) [] = omega arith
largest_larger (x ∷ xs) (y ∷ ys) = omega (arith, largest_larger xs ys)

pub total_under : (l : List ℕ) (m x : ℕ) → length l ≤ m → largest l ≤ x → total l ≤ m * x
unfolding total largest
total_under [] m x h k = omega arith
total_under (y ∷ l) zero x h k = absurd (let z : ⊥ = omega arith in z)
total_under (y ∷ l) (suc m) x h k = rw (suc-mul m x) (omega (arith, total_under l m x (omega arith) (omega arith)))

pub stages_under : (n : ℕ) (tasks : List Task) → all (in_range n) tasks ≡ true → (length (stage_maxima n tasks) ≤ n - 1) × (largest (stage_maxima n tasks) ≤ max_cost)
unfolding stage_maxima maxima_of all largest
stages_under n [] e = (omega arith, omega arith)
stages_under n (t ∷ tasks) e =
    let both = and_both (in_range n t) (all (in_range n) tasks) e in
    let rest = stages_under n tasks both.1 in
    let more : largest (larger (stage_costs n t) (maxima_of (map (stage_costs n) tasks))) ≡ max (largest (stage_costs n t)) (largest (maxima_of (map (stage_costs n) tasks))) = largest_larger (stage_costs n t) (maxima_of (map (stage_costs n) tasks)) in
    (omega (arith, length-larger (stage_costs n t) (maxima_of (map (stage_costs n) tasks)), length-take (n - 1) t.costs, rest.0), omega (arith, more, (in_range_lem n t both.0).stages_high, rest.1))

pub stages_most : (n : ℕ) (tasks : List Task) → n ≤ max_stations → all (in_range n) tasks ≡ true → total (stage_maxima n tasks) ≤ (max_stations - 1) * max_cost
stages_most n tasks h e =
    let rest = stages_under n tasks e in
    omega (arith, total_under (stage_maxima n tasks) (max_stations - 1) max_cost (omega (arith, rest.0)) rest.1)

pub base_most : (n : ℕ) (tasks : List Task) (t : Task) → n ≤ max_stations → all (in_range n) tasks ≡ true → in_range n t ≡ true → base n tasks t ≤ max_base
unfolding base
base_most n tasks t h e r = omega (arith, stages_most n tasks h e, (in_range_lem n t r).cost_high)

pub base_least : (n : ℕ) (tasks : List Task) (t : Task) → 1 ≤ n → in_range n t ≡ true → 1 ≤ base n tasks t
unfolding base
base_least n tasks t h r = omega (arith, (in_range_lem n t r).cost_low h)
