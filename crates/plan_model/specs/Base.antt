-- "Base of task t = its largest cost + for each station before N the largest cost of any task."
use Rattle.std.specs.Prelude.{List, map, ℕ, ◌+◌, ◌-◌, take}
use Rattle.model.specs.Lists.{total, largest}
use Rattle.model.specs.DelayBound.{maxima_of}
use Rattle.plan_model.specs.declared.Task.{Task}

-- The largest cost of a task at n stations. "Costs beyond N are not read."
unfoldable pub largest_cost : ℕ → Task → ℕ
largest_cost n t = largest (take n t.costs)

-- The costs of a task at the stations before the last.
abbrev pub stage_costs : ℕ → Task → List ℕ
stage_costs n t = take (n - 1) t.costs

-- "for each station before N the largest cost of any task"
unfoldable pub stage_maxima : ℕ → List Task → List ℕ
stage_maxima n tasks = maxima_of (map (stage_costs n) tasks)

unfoldable pub base : ℕ → List Task → Task → ℕ
base n tasks t = largest_cost n t + total (stage_maxima n tasks)
