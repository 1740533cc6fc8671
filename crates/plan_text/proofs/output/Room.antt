-- A table of at most 32 tasks whose figures are in range takes at most 923 bytes, and a refusal's line at most 11, so that a buffer of 1,024 always has
-- room. By the largest number of digits of each figure.
use mathlib.Core.Path.{ap}
use mathlib.Core.List.{List}
use Prim.Native.Nat.{ℕ, ◌+◌, ◌≤◌, ◌<◌}
use native.Mathlib.Nat.{le_refl}
use native.Mathlib.Omega.{arith}
use lib.ListN.{length, get_or}
use lib.Seq.{take_all}
use Rattle.text.proofs.Decimals.{length-decimal}
use Rattle.text.proofs.Rows.{rows_at_most}
use Rattle.plan_model.specs.declared.Task.{Task}
use Rattle.plan_model.specs.declared.Verdict.{Verdict}
use Rattle.plan_model.specs.declared.Verdict.TheVariants.{OnTime, Late}
use Rattle.plan_model.specs.Limits.{max_tasks}
use Rattle.plan_model.specs.Meaning.{max_base, max_response}
use Rattle.plan_model.specs.Output.{verdict_end, task_line, table, refusal}
use Rattle.plan_text.proofs.output.Lengths.{task_row, task_rows, length-field, length_line, length-table, length-refusal}

word_room : (v : Verdict) → length (verdict_end v) ≤ 8
word_room OnTime = omega arith
word_room Late = omega arith

-- At most 2 digits of the number, 5 of the base and 10 of the response, each with a space after it, and the longer of the two words.
line_room : (k : ℕ) (t : Task) → k ≤ max_tasks → (t.base ≤ max_base) × (t.response ≤ max_response) → length (task_line k t) ≤ 28
line_room k t h figures =
    omega (
      arith,
      length_line k t,
      length-field k,
      length-field t.base,
      length-field t.response,
      length-decimal 1 k (omega arith),
      length-decimal 4 t.base (omega arith),
      length-decimal 9 t.response (omega arith),
      word_room t.verdict,
    )

-- That no base is above `max_base` is in plan_model's proofs/Ranges.antt. 27 for the heading and 28 for each of 32 lines make 923.
pub table_room : (none : Task) (tasks : List Task) → length tasks ≤ max_tasks → ((i : ℕ) → i < length tasks → ((get_or tasks i none).base ≤ max_base) × ((get_or tasks i none).response ≤ max_response)) → length (table tasks) ≤ 1024
table_room none tasks h figures =
    let rows = rw (take_all (length tasks) tasks (le_refl _)) at (task_rows none (length tasks) tasks (le_refl _)) in
    omega (
      arith,
      length-table tasks,
      ap length rows,
      rows_at_most (task_row none tasks) 28 (length tasks) (λ i k. line_room (i + 1) (get_or tasks i none) (omega arith) (figures i k)),
    )

pub refusal_room : (number : ℕ) → number < 100 → length (refusal number) ≤ 1024
refusal_room number h = omega (arith, length-refusal number, length-decimal 1 number h)
