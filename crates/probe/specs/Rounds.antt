-- Plan over the first records of an array, again and again on what it leaves.
use Rattle.std.specs.Prelude.{Result, Ok, Err, List, ◌++◌, ℕ, zero, suc, take, drop}
use Rattle.plan_model.specs.declared.Task.{Task}
use Rattle.plan_model.specs.Plan.{plan_number, after_plan}
use Rattle.plan_text.specs.declared.answer.Form.{Form}
use Rattle.plan_text.specs.declared.answer.TaskSet.{TaskSet}
use Rattle.plan_text.specs.Answer.{number_of}

-- The array after k rounds.
unfoldable pub tasks_after : ℕ → TaskSet → List Task
tasks_after zero p = p.tasks
tasks_after (suc k) p = let ts = tasks_after k p in after_plan p.n (take p.count ts) ++ drop p.count ts

-- The number of the last of k rounds; 0 before the first.
unfoldable pub last_number : ℕ → TaskSet → ℕ
last_number zero p = 0
last_number (suc k) p = plan_number p.n (take p.count (tasks_after k p))

abbrev pub number_after : ℕ → Result TaskSet Form → ℕ
number_after rounds (Ok p) = last_number rounds p
number_after rounds (Err form) = number_of form
