-- Plan over the list of task records: its number, and the records as it leaves them.
use Rattle.std.specs.Prelude.{Bool, true, false, ◌&&◌, List, [], ◌∷◌, ℕ, length, take, eqb}
use Rattle.model.specs.Limits.{max_stations, max_cost}
use Rattle.model.specs.Lists.{within, is_zero, all, numbered}
use Rattle.model.specs.Questions.{Question, ◌else◌, first_no}
use Rattle.plan_model.specs.declared.Task.{Task}
use Rattle.plan_model.specs.Limits.{max_period, max_tasks}
use Rattle.plan_model.specs.Base.{base}
use Rattle.plan_model.specs.Response.{others, next, response_from, verdict_of}

-- "N costs", each "1 to 6,000". Every record has eight; a list with fewer than N is none.
abbrev pub are_costs : ℕ → List ℕ → Bool
are_costs n costs = eqb (length costs) n && all (within 1 max_cost) costs

-- "period 1 to 60,000, deadline 1 to the period, costs 1 to 6,000"
unfoldable pub in_range : ℕ → Task → Bool
in_range n t = within 1 max_period t.period && within 1 t.period t.deadline && are_costs n (take n t.costs)

-- "It declines N by 14, a count outside 1 to 32 by 17, and figures out of range by 18, in that order"
unfoldable pub plan_questions : ℕ → List Task → List Question
plan_questions n tasks = (within 1 max_stations n else 14) ∷ (within 1 max_tasks (length tasks) else 17) ∷ (all (in_range n) tasks else 18) ∷ []

unfoldable pub plan_number : ℕ → List Task → ℕ
plan_number n tasks = first_no (plan_questions n tasks)

-- The response of the task at place k, counted from 0, whose base is given.
unfoldable pub response : ℕ → List Task → ℕ → Task → ℕ → ℕ
response n tasks k t base = response_from (next n (others k tasks) base) t.deadline base

-- A task with its figures: "Plan fills base, response and verdict".
unfoldable pub with_figures : Task → ℕ → ℕ → Task
with_figures t base response =
    record { period = t.period; deadline = t.deadline; costs = t.costs; base = base; response = response; verdict = verdict_of t.deadline response }

unfoldable pub figured : ℕ → List Task → ℕ → Task → Task
figured n tasks k t = let b = base n tasks t in with_figures t b (response n tasks k t b)

unfoldable pub planned : ℕ → List Task → List Task
planned n tasks = numbered (figured n tasks) 0 tasks

-- "a decline leaves the list alone"
abbrev pub left_where : Bool → List Task → List Task → List Task
left_where true figures tasks = figures
left_where false figures tasks = tasks

unfoldable pub after_plan : ℕ → List Task → List Task
after_plan n tasks = left_where (is_zero (plan_number n tasks)) (planned n tasks) tasks
