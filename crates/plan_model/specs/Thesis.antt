-- The count of document 004, chapter 5, beside that of document 02, (ii), so that it is known which way the latter errs: who is on time by (ii) is on time by
-- the thesis. The thesis counts the releases in R ticks alone, and none that was inside when they began.
use Rattle.std.specs.Prelude.{◌≡◌, List, map, ℕ, ◌+◌, ◌*◌, ◌≤◌, ◌<◌, length, get_or}
use Rattle.model.specs.Lists.{rounded_up, total, numbered}
use Rattle.plan_model.specs.declared.Task.{Task}
use Rattle.plan_model.specs.declared.Verdict.TheVariants.{OnTime}
use Rattle.plan_model.specs.Base.{largest_cost, base}
use Rattle.plan_model.specs.Response.{others, response_from, verdict_of}
use Rattle.plan_model.specs.Plan.{plan_number, planned}

-- R / period of i, rounded up, times the largest cost of i
unfoldable pub thesis_share : ℕ → ℕ → Task → ℕ
thesis_share n R i = rounded_up R i.period * largest_cost n i

unfoldable pub thesis_next : ℕ → List Task → ℕ → ℕ → ℕ
thesis_next n rest base R = base + total (map (thesis_share n R) rest)

-- The response of the task at place k, counted from 0; base, start and end test are those of plan.
unfoldable pub thesis_response : ℕ → List Task → ℕ → Task → ℕ
thesis_response n tasks k t = let b = base n tasks t in response_from (thesis_next n (others k tasks) b) t.deadline b

unfoldable pub thesis_responses : ℕ → List Task → List ℕ
thesis_responses n tasks = numbered (thesis_response n tasks) 0 tasks

-- A task that plan finds on time.
pub record ByThesis (n : ℕ) (tasks : List Task) (k : ℕ) (t : Task) : Type 0 where
  pub on_time : verdict_of t.deadline (thesis_response n tasks k t) ≡ OnTime
  pub not_above : thesis_response n tasks k t ≤ t.response

abbrev pub OnTimeByThesis : Type 0
OnTimeByThesis =
    (n : ℕ) (tasks : List Task) → plan_number n tasks ≡ 0
    → (k : ℕ) (none : Task) → k < length tasks
    → let t = get_or (planned n tasks) k none in
    t.verdict ≡ OnTime → ByThesis n tasks k t
