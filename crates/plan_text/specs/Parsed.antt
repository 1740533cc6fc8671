-- What an input says, by the questions of its form.
use Rattle.std.specs.Prelude.{Result, Ok, List, ℕ, length, drop, leb}
use Rattle.plan_model.specs.Limits.{max_input}
use Rattle.text.specs.Parts.{line_feed, parts, lines}
use Rattle.plan_model.specs.Input.{is_stations, stations_of, is_task_lines, tasks_of}
use Rattle.plan_text.specs.declared.answer.Form.{Form}
use Rattle.plan_text.specs.declared.answer.Form.TheVariants.{TooLong, NotStations, NotTasks}
use Rattle.plan_text.specs.declared.answer.TaskSet.{TaskSet}
use Rattle.plan_text.specs.Answer.{table, asked}

-- Questions 15 to 17: "first "no" decides".
unfoldable pub parsed : List ℕ → Result TaskSet Form
parsed input =
    asked (leb (length input) max_input) TooLong
    (asked (is_stations (lines input)) NotStations
    (asked (is_task_lines (stations_of input) (drop 1 (parts line_feed input))) NotTasks
    (Ok (table (stations_of input) (tasks_of input)))))
