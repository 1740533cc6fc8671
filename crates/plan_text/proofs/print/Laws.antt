-- What is printed, by the number that the parts give, and room for it.
use mathlib.Core.Path.{◌≡◌, refl, sym, ◌∙◌}
use mathlib.Core.Bool.{Bool, true, false, cond}
use mathlib.Core.List.{List, [], ◌∷◌, ◌++◌}
use Prim.Native.Nat.{ℕ, ◌-◌, ◌≤◌, ◌<◌}
use native.Mathlib.Omega.{arith}
use lib.ListN.{length, take, drop, replicate}
use lib.Seq.{take-append_seam, drop-append_seam}
use lib.Dec.{leb}
use borrow.Author.Tests.{eq-eqb, ne_eqb, eqb-true}
use Rattle.std.specs.Prelude.{Result, Ok, Err}
use Rattle.model.specs.Lists.{is_zero, all}
use Rattle.model.specs.Questions.{◌else◌, first_no}
use Rattle.lists.proofs.Tests.{length-numbered}
use Rattle.plan_model.specs.Limits.{max_tasks, max_input}
use Rattle.plan_model.specs.declared.Task.{Task}
use Rattle.plan_model.specs.Plan.{in_range, plan_number, figured, planned, after_plan}
use Rattle.plan_model.specs.Records.{beyond, blank}
use Rattle.plan_model.specs.Input.{is_stations, stations_of, is_task_lines, tasks_of, form_questions, input_questions, input_number}
use Rattle.text.specs.Parts.{line_feed, parts, lines}
use Rattle.plan_model.specs.Output.{table, refusal, plan_output}
use Rattle.plan_model.proofs.Meaning.{meaning, done}
use Rattle.plan_model.proofs.Leaves.{leaves}
use Rattle.plan_text.specs.declared.answer.Form.{Form}
use Rattle.plan_text.specs.declared.answer.Form.TheVariants.{TooLong, NotStations, NotTasks}
use Rattle.plan_text.specs.declared.answer.TaskSet.{TaskSet}
use Rattle.plan_text.specs.Padded.{padded}
use Rattle.plan_text.specs.Answer.{number_of}
use Rattle.plan_text.specs.Answer.{table as set_of}
use Rattle.plan_text.specs.Parsed.{parsed}
use Rattle.plan_text.specs.Planned.{planned_of}
use Rattle.plan_text.proofs.input.AnswerLaws.{accepted, declined, is_table, left_to_plan}
use Rattle.plan_text.proofs.output.Room.{table_room, refusal_room}

-- No number has more than two digits.
four_small : (a b c d : Bool) → first_no ((a else 15) ∷ (b else 16) ∷ (c else 17) ∷ (d else 18) ∷ []) < 100
unfolding first_no
four_small true true true true = omega arith
four_small true true true false = omega arith
four_small true true false d = omega arith
four_small true false c d = omega arith
four_small false b c d = omega arith

small : (input : List ℕ) → input_number input < 100
unfolding input_number input_questions form_questions
small input =
    four_small (leb (length input) max_input) (is_stations (lines input)) (is_task_lines (stations_of input) (drop 1 (parts line_feed input))) (all (in_range (stations_of input)) (tasks_of input))

length-planned : (n : ℕ) (tasks : List Task) → length (planned n tasks) ≡ length tasks
unfolding planned
length-planned n tasks = length-numbered (figured n tasks) 0 tasks

-- The table of a done plan has room.
planned_room : (none : Task) (n : ℕ) (tasks : List Task) → plan_number n tasks ≡ 0 → length (table (planned n tasks)) ≤ 1024
planned_room none n tasks e =
    table_room none (planned n tasks) (omega (arith, length-planned n tasks, (done n tasks e).count_high)) (λ i h.
    let m = meaning n tasks e i none (omega (arith, length-planned n tasks, h)) in
    (m.base_most, m.response_most))

-- What the code has for an input, and what is printed for it.
module _ (input : List ℕ) where
  number_is : (number : ℕ) → input_number input ≡ number → (number ≡ 0 → ⊥) → Err number ≡ planned_of input
  unfolding planned_of
  number_is number e some = rw (e, ne_eqb number 0 some)

  some_form : (form : Form) → number_of form ≡ 0 → ⊥
  some_form TooLong e = omega arith
  some_form NotStations e = omega arith
  some_form NotTasks e = omega arith

  pub form_declined : (form : Form) → Err form ≡ parsed input → Err (number_of form) ≡ planned_of input
  form_declined form is = number_is (number_of form) (declined input form is) (some_form form)

  module _ (set : TaskSet) (is : Ok set ≡ parsed input) where
    abbrev lent : List Task
    lent = take set.count set.tasks

    same : plan_number set.n lent ≡ plan_number (stations_of input) (tasks_of input)
    same = let a = accepted input is in rw (a.stations, a.tasks)

    pub plan_declined : (number : ℕ) → number ≡ plan_number set.n lent → (number ≡ 0 → ⊥) → Err number ≡ planned_of input
    plan_declined number e some = number_is number (left_to_plan input is ∙ sym same ∙ sym e) some

    -- The records after the tasks stay blank.
    rest_blank : drop set.count set.tasks ≡ replicate (max_tasks - length (tasks_of input)) blank
    unfolding set_of padded
    rest_blank = rw (is_table input is) (drop-append_seam (tasks_of input) (replicate (max_tasks - length (tasks_of input)) blank))

    pub plan_done : (tasks : List Task) → 0 ≡ plan_number set.n lent → tasks ≡ after_plan set.n lent ++ drop set.count set.tasks → Ok (record { n = set.n; count = set.count; tasks = tasks }) ≡ planned_of input
    unfolding planned_of set_of padded
    plan_done tasks e left =
        let a = accepted input is in
        let zero : input_number input ≡ 0 = left_to_plan input is ∙ sym same ∙ sym e in
        let long : length (planned (stations_of input) (tasks_of input)) ≡ length (tasks_of input) = length-planned (stations_of input) (tasks_of input) in
        rw (eq-eqb (input_number input) 0 zero, left, (leaves set.n lent).done (sym e), a.tasks, rest_blank, a.stations, a.count, long)

-- What is printed for what the code has, and room for it.
by_number : (b : Bool) (number : ℕ) (done set : TaskSet) → Ok set ≡ cond b (Ok done) (Err number) → (b ≡ true) × (set ≡ done)
by_number true number done set e = (refl, cc)
by_number false number done set e = absurd (let z : ⊥ = cc in z)

by_refusal : (b : Bool) (number : ℕ) (items : TaskSet) (refused : ℕ) → Err refused ≡ cond b (Ok items) (Err number) → (b ≡ false) × (refused ≡ number)
by_refusal true number items refused e = absurd (let z : ⊥ = cc in z)
by_refusal false number items refused e = (refl, cc)

module _ (input : List ℕ) where
  -- Where no question of the input is answered by "no", none of plan's is.
  passed_by : (answer : Result TaskSet Form) → answer ≡ parsed input → input_number input ≡ 0 → plan_number (stations_of input) (tasks_of input) ≡ 0
  passed_by (Ok set) is zero = sym (left_to_plan input is) ∙ zero
  passed_by (Err form) is zero = absurd (some_form input form (sym (declined input form is) ∙ zero))

  table_set : (n : ℕ) (tasks : List Task) → take (set_of n tasks).count (set_of n tasks).tasks ≡ tasks
  unfolding set_of padded
  table_set n tasks = take-append_seam tasks (replicate (max_tasks - length tasks) blank)

  few : plan_number (stations_of input) (tasks_of input) ≡ 0 → (set_of (stations_of input) (planned (stations_of input) (tasks_of input))).count ≤ max_tasks
  unfolding set_of
  few e = omega (arith, length-planned (stations_of input) (tasks_of input), (done (stations_of input) (tasks_of input) e).count_high)

  pub table_is : (set : TaskSet) → Ok set ≡ planned_of input → (plan_output input ≡ table (take set.count set.tasks)) × (length (table (take set.count set.tasks)) ≤ 1024) × (set.count ≤ max_tasks)
  unfolding planned_of plan_output
  table_is set e =
      let n = stations_of input in
      let k = by_number (is_zero (input_number input)) (input_number input) (set_of n (planned n (tasks_of input))) set e in
      let zero : input_number input ≡ 0 = eqb-true (input_number input) 0 k.0 in
      let none : plan_number n (tasks_of input) ≡ 0 = passed_by (parsed input) refl zero in
      let lines : take set.count set.tasks ≡ planned n (tasks_of input) = rw k.1 (table_set n (planned n (tasks_of input))) in
      (rw (k.0, lines), rw lines (planned_room beyond n (tasks_of input) none), rw k.1 (few none))

  pub refusal_is : (number : ℕ) → Err number ≡ planned_of input → (plan_output input ≡ refusal number) × (length (refusal number) ≤ 1024)
  unfolding planned_of plan_output
  refusal_is number e =
      let k = by_refusal (is_zero (input_number input)) (input_number input) _ number e in
      (rw (k.0, k.1), refusal_room number (rw k.1 (small input)))
