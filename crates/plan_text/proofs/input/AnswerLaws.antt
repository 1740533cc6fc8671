-- What the answer tells a caller: the number of the first question of the form that is answered "no"; of an input whose form passed, N and the tasks, and that
-- the questions left are plan's.
use mathlib.Core.Path.{◌≡◌, refl, sym, ◌∙◌}
use mathlib.Core.Bool.{Bool, true, false, ◌&&◌}
use mathlib.Core.List.{List, [], ◌∷◌}
use Prim.Native.Nat.{ℕ, ◌-◌}
use native.Mathlib.Omega.{arith}
use lib.Dec.{eqb, leb}
use lib.ListN.{length, drop, replicate, length-map}
use lib.Seq.{take-append_seam}
use Rattle.std.specs.Prelude.{Result, Ok, Err}
use Rattle.model.specs.Limits.{max_stations}
use Rattle.model.specs.Lists.{within, all}
use Rattle.model.specs.Questions.{◌else◌, first_no}
use Rattle.plan_model.specs.declared.Task.{Task}
use Rattle.plan_model.specs.Limits.{max_tasks, max_input}
use Rattle.plan_model.specs.Records.{blank}
use Rattle.text.specs.Parts.{line_feed, parts, last_of, lines_of, lines}
use Rattle.text.specs.Number.{value_of}
use Rattle.plan_model.specs.Number.{is_number}
use Rattle.plan_model.specs.Input.{is_stations, stations_of, is_task_line, is_task_lines, task_at, tasks_of, form_questions, input_questions, input_number}
use Rattle.plan_model.specs.Plan.{plan_questions, plan_number}
use Rattle.plan_model.proofs.Ranges.{inside}
use Rattle.lists.proofs.Tests.{and_both}
use Rattle.lists.proofs.Questions.{gives_other, decides, three_pass}
use Rattle.lists.proofs.Questions as questions
use Rattle.plan_text.specs.Padded.{padded}
use Rattle.plan_text.specs.declared.answer.Form.{Form}
use Rattle.plan_text.specs.declared.answer.Form.TheVariants.{TooLong, NotStations, NotTasks}
use Rattle.plan_text.specs.declared.answer.TaskSet.{TaskSet}
use Rattle.plan_text.specs.Answer.{number_of, number_given, table, asked}
use Rattle.plan_text.specs.Parsed.{parsed}
use Rattle.plan_text.specs.Accepted.{Accepted}

-- Three answers, and what is said where all are "yes".
abbrev three_asked : Bool → Bool → Bool → Result TaskSet Form → Result TaskSet Form
three_asked a b c rest = asked a TooLong (asked b NotStations (asked c NotTasks rest))

three_number : (a b c : Bool) (set : TaskSet) → number_given (three_asked a b c (Ok set)) ≡ first_no ((a else 15) ∷ (b else 16) ∷ (c else 17) ∷ [])
unfolding first_no
three_number true true true set = refl
three_number true true false set = refl
three_number true false c set = refl
three_number false b c set = refl

-- What the questions say of N and of the tasks.
stations_within : (ls : List (List ℕ)) (input : List ℕ) → lines input ≡ ls → is_stations ls ≡ true → within 1 max_stations (stations_of input) ≡ true
unfolding is_stations stations_of
stations_within [] input is e = absurd (let z : ◌≡◌ {A = ℕ} 0 1 = cc in let w : ⊥ = omega arith in w)
stations_within (line ∷ rest) input is e = rw is (and_both (is_number line) (within 1 max_stations (value_of line)) e).1

-- The lines of tasks are the lines after the first, and the lines of the parts after the first.
lines_drop : (ps : List (List ℕ)) → lines_of (drop 1 ps) ≡ drop 1 (lines_of ps)
unfolding lines_of
lines_drop [] = refl
lines_drop (p ∷ []) = refl
lines_drop (p ∷ q ∷ ps) = refl

tasks_within : (input : List ℕ) → is_task_lines (stations_of input) (drop 1 (parts line_feed input)) ≡ true → within 1 max_tasks (length (tasks_of input)) ≡ true
unfolding is_task_lines tasks_of lines
tasks_within input e =
    let ps = drop 1 (parts line_feed input) in
    let k = and_both (eqb (length (last_of ps)) 0 && within 1 max_tasks (length (lines_of ps))) (all (is_task_line (stations_of input)) (lines_of ps)) e in
    rw (length-map (drop 1 (lines_of (parts line_feed input))) task_at, ← lines_drop (parts line_feed input))
    (and_both (eqb (length (last_of ps)) 0) (within 1 max_tasks (length (lines_of ps))) k.0).1

table_accepted : (input : List ℕ) → within 1 max_stations (stations_of input) ≡ true → within 1 max_tasks (length (tasks_of input)) ≡ true → Accepted input (table (stations_of input) (tasks_of input))
unfolding table padded
table_accepted input s t =
    let n = inside 1 max_stations (stations_of input) s in
    let k = inside 1 max_tasks (length (tasks_of input)) t in
    record {
      stations = refl;
      stations_low = n.0;
      stations_high = n.1;
      count = refl;
      count_low = k.0;
      count_high = k.1;
      tasks = take-append_seam (tasks_of input) (replicate (max_tasks - length (tasks_of input)) blank);
    }

-- Questions 15 to 17.
abbrev is_short : List ℕ → Bool
is_short input = leb (length input) max_input

abbrev has_stations : List ℕ → Bool
has_stations input = is_stations (lines input)

abbrev has_tasks : List ℕ → Bool
has_tasks input = is_task_lines (stations_of input) (drop 1 (parts line_feed input))

module _ (input : List ℕ) where
  pub answer_number : number_given (parsed input) ≡ first_no (form_questions input)
  unfolding parsed form_questions
  answer_number = three_number (is_short input) (has_stations input) (has_tasks input) (table (stations_of input) (tasks_of input))

  -- No question has the number 0.
  some_number : (form : Form) → number_of form ≡ 0 → ⊥
  some_number TooLong e = omega arith
  some_number NotStations e = omega arith
  some_number NotTasks e = omega arith

  -- A "no" is the program's number.
  pub declined : (form : Form) → Err form ≡ parsed input → input_number input ≡ number_of form
  unfolding input_number input_questions
  declined form is = sym (decides (form_questions input) _ (number_of form) (rw (← is) at answer_number) (some_number form))

  module _ {set : TaskSet} (is : Ok set ≡ parsed input) where
    passed : 0 ≡ first_no (form_questions input)
    passed = rw (← is) at answer_number

    answers : (is_short input ≡ true) × (has_stations input ≡ true) × (has_tasks input ≡ true)
    unfolding form_questions all gives_other
    answers =
        three_pass (is_short input) (has_stations input) (has_tasks input) 15 16 17 (questions.passed (form_questions input) refl (sym passed))

    stations_fit : within 1 max_stations (stations_of input) ≡ true
    stations_fit = stations_within (lines input) input refl answers.1

    count_fits : within 1 max_tasks (length (tasks_of input)) ≡ true
    count_fits = tasks_within input answers.2

    pub is_table : set ≡ table (stations_of input) (tasks_of input)
    unfolding parsed
    is_table =
        let whole : Ok set ≡ Ok (table (stations_of input) (tasks_of input)) = is ∙ rw (answers.0, answers.1, answers.2) in
        cc

    pub accepted : Accepted input set
    accepted = rw is_table (table_accepted input stations_fit count_fits)

    -- Without a "no" so far, the program's number is plan's.
    pub left_to_plan : input_number input ≡ plan_number (stations_of input) (tasks_of input)
    unfolding input_number input_questions form_questions plan_number plan_questions first_no
    left_to_plan = rw (answers.0, answers.1, answers.2, stations_fit, count_fits)
