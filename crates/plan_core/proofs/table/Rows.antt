-- What is known of a row in range, of the rows of tasks that are, and of what question 18 gives for one.
use mathlib.Core.Path.{◌≡◌, refl}
use mathlib.Core.Bool.{Bool, true, false, cond, ◌&&◌}
use mathlib.Core.List.{List, [], ◌∷◌, ◌++◌, map, map-append}
use Prim.Native.Nat.{ℕ, zero, suc, ◌+◌, ◌≤◌, ◌<◌}
use native.Mathlib.Numerals.{add-one}
use native.Mathlib.Omega.{arith}
use lib.ListN.{length, get_or, take, replicate}
use lib.Seq.{take-suc}
use lib.Dec.{leb}
use borrow.Author.Tests.{leb-true, le-leb}
use Rattle.model.specs.Limits.{max_stations, max_cost}
use Rattle.model.specs.Lists.{within, all, total, larger}
use Rattle.model.specs.DelayBound.{maxima_of}
use Rattle.std.specs.Prelude.{Result, Ok, Err}
use Rattle.lists.proofs.Tests.{and_both}
use Rattle.lists.proofs.Maxima.{larger_left_comm, maxima_of_last}
use Rattle.plan_model.specs.declared.Task.{Task}
use Rattle.plan_model.specs.Limits.{max_period}
use Rattle.plan_model.specs.Base.{stage_costs, stage_maxima}
use Rattle.plan_model.specs.Plan.{in_range}
use Rattle.plan_model.specs.Records.{beyond}
use Rattle.plan_model.proofs.Ranges.{inside, in_range_lem}
use Rattle.plan_core.specs.declared.table.Row.{Row}
use Rattle.plan_core.specs.declared.refusal.Refusal.{Refusal}
use Rattle.plan_core.specs.declared.refusal.Refusal.TheVariants.{Figures}
use Rattle.plan_core.specs.Ranged.{ranged}
use Rattle.plan_core.specs.Table.{row_of, rows_of, row_in}

-- What stands where no row does.
abbrev pub none : Row
none = record { period = 0; deadline = 0; cost = 0 }

pub record Ranges (r : Row) : Type 0 where
  pub period_high : r.period ≤ max_period
  pub deadline_low : 1 ≤ r.deadline
  pub deadline_high : r.deadline ≤ r.period
  pub cost_high : r.cost ≤ max_cost

pub ranges : (r : Row) → ranged r ≡ true → Ranges r
ranges r e =
    let two = and_both (leb r.period max_period && within 1 r.period r.deadline) (leb r.cost max_cost) e in
    let one = and_both (leb r.period max_period) (within 1 r.period r.deadline) two.0 in
    let deadline = inside 1 r.period r.deadline one.1 in
    record {
      period_high = leb-true r.period max_period one.0;
      deadline_low = deadline.0;
      deadline_high = deadline.1;
      cost_high = leb-true r.cost max_cost two.1;
    }

row_ranged : (stations : ℕ) (t : Task) → in_range stations t ≡ true → ranged (row_of stations t) ≡ true
unfolding row_of
row_ranged stations t e =
    let r = in_range_lem stations t e in
    rw (le-leb _ _ r.period_high, le-leb _ _ r.deadline_low, le-leb _ _ r.deadline_high, le-leb _ _ r.cost_high)

pub rows_ranged : (stations : ℕ) (tasks : List Task) → all (in_range stations) tasks ≡ true → all ranged (rows_of stations tasks) ≡ true
unfolding all
rows_ranged stations [] e = refl
rows_ranged stations (t ∷ tasks) e =
    let both = and_both (in_range stations t) (all (in_range stations) tasks) e in
    rw (row_ranged stations t both.0) (rows_ranged stations tasks both.1)

-- By question 18's answer.
row_ok_by : (in_range : Bool) (row r : Row) → Ok r ≡ cond in_range (Ok row) (Err Figures) → (in_range ≡ true) × (r ≡ row)
row_ok_by true row r e = (refl, cc)
row_ok_by false row r e = (cc, cc)

row_err_by : (in_range : Bool) (row : Row) (f : Refusal) → Err f ≡ cond in_range (Ok row) (Err Figures) → (in_range ≡ false) × (f ≡ Figures)
row_err_by true row f e = (cc, cc)
row_err_by false row f e = (refl, cc)

pub row_ok : (stations : ℕ) (t : Task) (r : Row) → Ok r ≡ row_in stations t → (in_range stations t ≡ true) × (r ≡ row_of stations t)
unfolding row_in
row_ok stations t r e = row_ok_by (in_range stations t) (row_of stations t) r e

pub row_err : (stations : ℕ) (t : Task) (f : Refusal) → Err f ≡ row_in stations t → (in_range stations t ≡ false) × (f ≡ Figures)
unfolding row_in
row_err stations t f e = row_err_by (in_range stations t) (row_of stations t) f e

-- The maxima with one record more.
pub maxima_next : (stations : ℕ) (tasks : List Task) (k : ℕ) → k < length tasks → larger (stage_costs stations (get_or tasks k beyond)) (larger (replicate max_stations 0) (stage_maxima stations (take k tasks))) ≡ larger (replicate max_stations 0) (stage_maxima stations (take (k + 1) tasks))
unfolding stage_maxima
maxima_next stations tasks k h =
    let x = get_or tasks k beyond in
    let so_far = map (stage_costs stations) (take k tasks) in
    rw (add-one k, take-suc tasks k beyond h, map-append (stage_costs stations) (take k tasks) (x ∷ []), maxima_of_last so_far (stage_costs stations x))
    (larger_left_comm (stage_costs stations x) (replicate max_stations 0) (maxima_of so_far))

pub rows_next : (stations : ℕ) (tasks : List Task) (k : ℕ) → k < length tasks → rows_of stations (take (k + 1) tasks) ≡ rows_of stations (take k tasks) ++ (row_of stations (get_or tasks k beyond) ∷ [])
rows_next stations tasks k h = rw (add-one k, take-suc tasks k beyond h) (map-append (row_of stations) (take k tasks) (get_or tasks k beyond ∷ []))

-- Beside the maxima stand zeros, where there is no station before the last.
zeros_total : (n : ℕ) → total (replicate n 0) ≡ 0
unfolding total
zeros_total zero = refl
zeros_total (suc n) = omega (arith, zeros_total n)

pub zeros_add : (n : ℕ) (l : List ℕ) → total (larger (replicate n 0) l) ≡ total l
unfolding total larger
zeros_add zero l = refl
zeros_add (suc n) [] = omega (arith, zeros_total n)
zeros_add (suc n) (x ∷ l) = omega (arith, zeros_add n l)
