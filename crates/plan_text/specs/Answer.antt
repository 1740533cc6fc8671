-- The answer about an input: the question of the form that was answered "no", with document 01's number for each, or the task set.
use Rattle.std.specs.Prelude.{Bool, true, false, Result, Ok, Err, List, ℕ, length}
use Rattle.plan_model.specs.declared.Task.{Task}
use Rattle.plan_model.specs.Limits.{max_tasks}
use Rattle.plan_model.specs.Records.{blank}
use Rattle.plan_text.specs.Padded.{padded}
use Rattle.plan_text.specs.declared.answer.Form.{Form}
use Rattle.plan_text.specs.declared.answer.Form.TheVariants.{TooLong, NotStations, NotTasks}
use Rattle.plan_text.specs.declared.answer.TaskSet.{TaskSet}

abbrev pub number_of : Form → ℕ
number_of TooLong = 15
number_of NotStations = 16
number_of NotTasks = 17

-- 0 where every question of the form was answered "yes", otherwise the question's number.
abbrev pub number_given : {A : Type 0} → Result A Form → ℕ
number_given (Ok a) = 0
number_given (Err form) = number_of form

-- An input whose form passed says N and its tasks.
unfoldable pub table : ℕ → List Task → TaskSet
table n tasks = record { n = n; count = length tasks; tasks = padded max_tasks blank tasks }

-- A question: its answer, what a "no" says, and what a "yes" leaves to say.
abbrev pub asked : {A : Type 0} → Bool → Form → Result A Form → Result A Form
asked true form rest = rest
asked false form rest = Err form
