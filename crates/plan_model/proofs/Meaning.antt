-- What the figures of a done plan mean.
use mathlib.Core.Path.{◌≡◌, refl, ◌∙◌}
use mathlib.Core.Bool.{true}
use mathlib.Core.List.{List}
use Prim.Native.Nat.{ℕ, ◌≤◌, ◌<◌}
use native.Mathlib.Nat.{zero-add}
use native.Mathlib.Omega.{arith}
use lib.ListN.{length, get_or}
use Rattle.model.specs.Limits.{max_stations}
use Rattle.model.specs.Lists.{within, all}
use Rattle.lists.proofs.Tests.{all-at, get_d_from}
use Rattle.lists.proofs.Questions.{gives_other, passed, three_pass}
use Rattle.plan_model.specs.declared.Task.{Task}
use Rattle.plan_model.specs.Limits.{max_tasks}
use Rattle.plan_model.specs.Base.{base}
use Rattle.plan_model.specs.Response.{others, next}
use Rattle.plan_model.specs.Plan.{in_range, plan_questions, plan_number, response, with_figures, figured, planned}
use Rattle.plan_model.specs.Meaning.{Meant, Meaning}
use Rattle.plan_model.proofs.Ranges.{inside, in_range_lem, base_least, base_most}
use Rattle.plan_model.proofs.Sequence.{response_first, never_falls, on_time_means, late_means}
use Rattle.plan_model.proofs.Steps.{all_others, length-others, next_rises, next_from, response_most}

-- What a done plan says of its input.
pub record Done (n : ℕ) (tasks : List Task) : Type 0 where
  pub n_low : 1 ≤ n
  pub n_high : n ≤ max_stations
  pub count_low : 1 ≤ length tasks
  pub count_high : length tasks ≤ max_tasks
  pub ranged : all (in_range n) tasks ≡ true

pub done : (n : ℕ) (tasks : List Task) → plan_number n tasks ≡ 0 → Done n tasks
unfolding plan_number plan_questions all gives_other
done n tasks e =
    let yes = three_pass (within 1 max_stations n) (within 1 max_tasks (length tasks)) (all (in_range n) tasks) 14 17 18 (passed (plan_questions n tasks) refl e) in
    record {
      n_low = (inside 1 max_stations n yes.0).0;
      n_high = (inside 1 max_stations n yes.0).1;
      count_low = (inside 1 max_tasks (length tasks) yes.1).0;
      count_high = (inside 1 max_tasks (length tasks) yes.1).1;
      ranged = yes.2;
    }

-- A task that all of the list's facts hold of has the meant figures.
meant : (n : ℕ) (tasks : List Task) → Done n tasks → (k : ℕ) → k < length tasks → (t : Task) → in_range n t ≡ true
    → let p = figured n tasks k t in
    Meant (next n (others k tasks) p.base) p.deadline p.base p.response p.verdict
unfolding figured with_figures response
meant n tasks d k h t r =
    let b = base n tasks t in
    let rest = others k tasks in
    let ranged : all (in_range n) rest ≡ true = all_others (in_range n) k tasks d.ranged in
    let rises = next_rises n rest ranged b in
    let from = next_from n rest ranged b in
    let f = response_first (next n rest b) t.deadline rises b (from b) in
    record {
      never_falls = never_falls (next n rest b) t.deadline rises b (from b);
      first_end = f;
      on_time = on_time_means (next n rest b) t.deadline rises b _ from f;
      late = late_means (next n rest b) t.deadline rises b _ f;
      base_most = base_most n tasks t d.n_high d.ranged r;
      response_most = response_most n rest ranged b t.deadline (omega (arith, (in_range_lem n t r).deadline_high, (in_range_lem n t r).period_high)) (omega (arith, length-others k tasks h, d.count_high)) (base_least n tasks t d.n_low r) (base_most n tasks t d.n_high d.ranged r) _ f;
    }

-- The figures at a place are those of the task there.
pub planned_at : (n : ℕ) (tasks : List Task) (k : ℕ) (none : Task) → k < length tasks → get_or (planned n tasks) k none ≡ figured n tasks k (get_or tasks k none)
unfolding planned
planned_at n tasks k none h = get_d_from (figured n tasks) 0 tasks k none none h ∙ rw (zero-add k)

pub meaning : Meaning
meaning n tasks e k none h =
    let d = done n tasks e in
    rw (planned_at n tasks k none h) (meant n tasks d k h (get_or tasks k none) (all-at (in_range n) none tasks k h d.ranged))
