-- The plan program's input: "first line N, then one line a task, `period deadline cost1 .. costN`", "single spaces, each line ended by a line feed"; and its
-- questions.
use Rattle.std.specs.Prelude.{Bool, false, ◌&&◌, List, [], ◌∷◌, ◌++◌, map, ℕ, ◌+◌, ◌-◌, length, get_or, drop, replicate, leb, eqb}
use Rattle.model.specs.Limits.{max_stations}
use Rattle.model.specs.Lists.{within, all}
use Rattle.model.specs.Questions.{Question, ◌else◌, first_no}
use Rattle.plan_model.specs.declared.Task.{Task}
use Rattle.plan_model.specs.declared.Verdict.TheVariants.{Late}
use Rattle.plan_model.specs.Limits.{max_tasks, max_input, max_numbers}
use Rattle.text.specs.Parts.{line_feed, parts, last_of, lines_of, lines, words}
use Rattle.text.specs.Number.{value_of}
use Rattle.plan_model.specs.Number.{is_number}
use Rattle.plan_model.specs.Plan.{in_range}

-- "first line a number 1 to 8"
unfoldable pub is_stations : List (List ℕ) → Bool
is_stations [] = false
is_stations (line ∷ rest) = is_number line && within 1 max_stations (value_of line)

-- N, of an input whose first line is such a number.
unfoldable pub stations_of : List ℕ → ℕ
stations_of input = value_of (get_or (lines input) 0 [])

-- A line of so many numbers.
unfoldable pub is_numbers : ℕ → List ℕ → Bool
is_numbers count line = all is_number (words line) && eqb (length (words line)) count

abbrev pub is_task_line : ℕ → List ℕ → Bool
is_task_line n line = is_numbers (2 + n) line

-- "one to 32 task lines of that form", of what follows the first line; after the last line feed stands nothing.
unfoldable pub is_task_lines : ℕ → List (List ℕ) → Bool
is_task_lines n ps = eqb (length (last_of ps)) 0 && within 1 max_tasks (length (lines_of ps)) && all (is_task_line n) (lines_of ps)

-- A task of these numbers, period and deadline first. Costs that they do not give are 0, and the figures are not filled in yet.
unfoldable pub task_of : List ℕ → Task
task_of vs =
    record {
      period = get_or vs 0 0;
      deadline = get_or vs 1 0;
      costs = drop 2 vs ++ replicate (max_numbers - length vs) 0;
      base = 0;
      response = 0;
      verdict = Late;
    }

unfoldable pub task_at : List ℕ → Task
task_at line = task_of (map value_of (words line))

unfoldable pub tasks_of : List ℕ → List Task
tasks_of input = map task_at (drop 1 (lines input))

-- "15 input at most 16,384 bytes; 16 first line a number 1 to 8; 17 one to 32 task lines of that form; 18 period 1 to 60,000, deadline 1 to the period,
-- costs 1 to 6,000"
unfoldable pub form_questions : List ℕ → List Question
form_questions input =
    (leb (length input) max_input else 15)
    ∷ (is_stations (lines input) else 16)
    ∷ (is_task_lines (stations_of input) (drop 1 (parts line_feed input)) else 17)
    ∷ []

unfoldable pub input_questions : List ℕ → List Question
input_questions input = form_questions input ++ ((all (in_range (stations_of input)) (tasks_of input) else 18) ∷ [])

unfoldable pub input_number : List ℕ → ℕ
input_number input = first_no (input_questions input)
