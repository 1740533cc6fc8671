-- What the answer about an input holds whose form passed: N and the tasks that the input gives, in range. A caller lends plan the first `count` records.
use Rattle.std.specs.Prelude.{◌≡◌, List, ℕ, ◌≤◌, length, take}
use Rattle.model.specs.Limits.{max_stations}
use Rattle.plan_model.specs.Limits.{max_tasks}
use Rattle.plan_model.specs.Input.{stations_of, tasks_of}
use Rattle.plan_text.specs.declared.answer.TaskSet.{TaskSet}

pub record Accepted (input : List ℕ) (answer : TaskSet) : Type 0 where
  pub stations : answer.n ≡ stations_of input
  pub stations_low : 1 ≤ answer.n
  pub stations_high : answer.n ≤ max_stations
  pub count : answer.count ≡ length (tasks_of input)
  pub count_low : 1 ≤ answer.count
  pub count_high : answer.count ≤ max_tasks
  pub tasks : take answer.count answer.tasks ≡ tasks_of input
