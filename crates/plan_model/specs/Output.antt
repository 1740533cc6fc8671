-- What the plan program prints, by all bytes of its input.
use Rattle.std.specs.Prelude.{Bool, true, false, List, ◌++◌, ℕ}
use Rattle.model.specs.Lists.{is_zero, concat, numbered}
use Rattle.text.specs.Ascii.{ascii}
use Rattle.text.specs.Decimal.{decimal}
use Rattle.plan_model.specs.declared.Task.{Task}
use Rattle.plan_model.specs.declared.Verdict.{Verdict}
use Rattle.plan_model.specs.declared.Verdict.TheVariants.{OnTime, Late}
use Rattle.plan_model.specs.Plan.{planned}
use Rattle.plan_model.specs.Input.{stations_of, tasks_of, input_number}

abbrev pub heading : List ℕ
heading = ascii "task base response verdict\n"

-- "`on-time` or `late`"
abbrev pub verdict_word : Verdict → List ℕ
verdict_word OnTime = ascii "on-time"
verdict_word Late = ascii "late"

-- It is the last word of a line.
abbrev pub verdict_end : Verdict → List ℕ
verdict_end v = verdict_word v ++ ascii "\n"

-- A figure and a space.
unfoldable pub field : ℕ → List ℕ
field v = decimal v ++ ascii " "

-- "Fields: task number from 1, base, the R reached, and" the verdict.
unfoldable pub task_line : ℕ → Task → List ℕ
task_line k t = field k ++ field t.base ++ field t.response ++ verdict_end t.verdict

unfoldable pub task_lines : List Task → List ℕ
task_lines tasks = concat (numbered task_line 1 tasks)

unfoldable pub table : List Task → List ℕ
table tasks = heading ++ task_lines tasks

-- "A decline prints one line, `refused`, a space and the number, nothing else."
unfoldable pub refusal : ℕ → List ℕ
refusal number = ascii "refused " ++ decimal number ++ ascii "\n"

abbrev pub printed_where : Bool → List ℕ → List ℕ → List ℕ
printed_where true done declined = done
printed_where false done declined = declined

unfoldable pub plan_output : List ℕ → List ℕ
plan_output input =
    let number = input_number input in
    printed_where (is_zero number) (table (planned (stations_of input) (tasks_of input))) (refusal number)
