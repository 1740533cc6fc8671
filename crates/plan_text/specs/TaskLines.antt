-- What question 17 says of the task lines.
use Rattle.std.specs.Prelude.{Result, Ok, List, map, ℕ}
use Rattle.text.specs.Parts.{lines_of}
use Rattle.plan_model.specs.Input.{is_task_lines, task_at}
use Rattle.plan_text.specs.declared.answer.Form.{Form}
use Rattle.plan_text.specs.declared.answer.Form.TheVariants.{NotTasks}
use Rattle.plan_text.specs.declared.answer.TaskSet.{TaskSet}
use Rattle.plan_text.specs.Answer.{table, asked}

-- Question 17, of the parts that follow the first line.
unfoldable pub table_of : ℕ → List (List ℕ) → Result TaskSet Form
table_of n ps = asked (is_task_lines n ps) NotTasks (Ok (table n (map task_at (lines_of ps))))
