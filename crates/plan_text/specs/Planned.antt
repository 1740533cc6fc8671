-- The tasks of an input with their figures, or the number of the first question that is answered by "no".
use Rattle.std.specs.Prelude.{Result, Ok, Err, cond, List, ℕ}
use Rattle.model.specs.Lists.{is_zero}
use Rattle.plan_model.specs.Plan.{planned}
use Rattle.plan_model.specs.Input.{stations_of, tasks_of, input_number}
use Rattle.plan_text.specs.declared.answer.TaskSet.{TaskSet}
use Rattle.plan_text.specs.Answer.{table}

unfoldable pub planned_of : List ℕ → Result TaskSet ℕ
planned_of input =
    let number = input_number input in
    cond (is_zero number) (Ok (table (stations_of input) (planned (stations_of input) (tasks_of input)))) (Err number)
