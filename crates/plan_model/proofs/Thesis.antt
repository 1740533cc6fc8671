-- Who is on time by (ii) is on time by the thesis's count: its sequence stays at or below the fixed point of the other.
use mathlib.Core.Path.{◌≡◌}
use mathlib.Core.Bool.{true}
use mathlib.Core.List.{List}
use Prim.Native.Nat.{ℕ, ◌≤◌}
use native.Mathlib.Nat.{mul-le-mul_right}
use native.Mathlib.Omega.{arith}
use lib.ListN.{get_or}
use Rattle.model.specs.Lists.{all}
use Rattle.lists.proofs.Rounding.{up_rises}
use Rattle.plan_model.specs.declared.Task.{Task}
use Rattle.plan_model.specs.declared.Verdict.TheVariants.{OnTime}
use Rattle.plan_model.specs.Base.{largest_cost, base}
use Rattle.plan_model.specs.Response.{share, others, next, response_from}
use Rattle.plan_model.specs.Plan.{in_range, response, with_figures, figured}
use Rattle.plan_model.specs.Thesis.{thesis_share, thesis_next, thesis_response, ByThesis, OnTimeByThesis}
use Rattle.plan_model.proofs.Releases.{releases_thesis}
use Rattle.plan_model.proofs.Sequence.{Rises, response_first, under, verdict_in_time, on_time_means}
use Rattle.plan_model.proofs.Steps.{totals_rise, all_others, next_rises, next_from}
use Rattle.plan_model.proofs.Meaning.{Done, done, planned_at}

module _ (n : ℕ) (rest : List Task) (ranged : all (in_range n) rest ≡ true) (base : ℕ) where
  thesis_rises : Rises (thesis_next n rest base)
  unfolding thesis_next thesis_share
  thesis_rises R S h =
      omega (arith, totals_rise n (thesis_share n R) (thesis_share n S) (λ t r. mul-le-mul_right (largest_cost n t) (up_rises R S t.period r.period_low h)) rest ranged)

  thesis_from : (R : ℕ) → base ≤ thesis_next n rest base R
  unfolding thesis_next
  thesis_from R = omega arith

  thesis_under : (R : ℕ) → thesis_next n rest base R ≤ next n rest base R
  unfolding thesis_next thesis_share next share
  thesis_under R =
      omega (arith, totals_rise n (thesis_share n R) (share n R) (λ t r. mul-le-mul_right (largest_cost n t) (releases_thesis R t.deadline t.period r.deadline_low r.period_low)) rest ranged)

by_thesis : (n : ℕ) (tasks : List Task) → Done n tasks → (k : ℕ) (t : Task) → (figured n tasks k t).verdict ≡ OnTime → ByThesis n tasks k (figured n tasks k t)
unfolding figured with_figures response thesis_response base largest_cost
by_thesis n tasks d k t v =
    let b = base n tasks t in
    let rest = others k tasks in
    let ranged : all (in_range n) rest ≡ true = all_others (in_range n) k tasks d.ranged in
    let here = next n rest b in
    let rises = next_rises n rest ranged b in
    let from = next_from n rest ranged b in
    let fixed = on_time_means here t.deadline rises b _ from (response_first here t.deadline rises b (from b)) v in
    let thesis = thesis_next n rest b in
    let thesis_up = thesis_rises n rest ranged b in
    let first = response_first thesis t.deadline thesis_up b (thesis_from n rest ranged b b) in
    let R = response_from here t.deadline b in
    let not_above : response_from thesis t.deadline b ≤ R = rw first.is (under thesis t.deadline thesis_up b R fixed.above (omega (arith, thesis_under n rest ranged b R, fixed.fixed)) first.place) in
    record { on_time = verdict_in_time t.deadline _ (omega (arith, fixed.below)); not_above = not_above }

pub on_time_by_thesis : OnTimeByThesis
on_time_by_thesis n tasks e k none h =
    rw (planned_at n tasks k none h) (by_thesis n tasks (done n tasks e) k (get_or tasks k none))
