-- The length of each text by the lengths of its parts, and the lines as rows that are given by their places. By taking `++` apart.
use mathlib.Core.Path.{◌≡◌, ap}
use mathlib.Core.List.{List}
use Prim.Native.Nat.{ℕ, ◌+◌, ◌≤◌}
use lib.ListN.{length, get_or, take, length-append}
use Rattle.model.specs.Lists.{concat, upward}
use Rattle.text.specs.Decimal.{decimal}
use Rattle.text.proofs.Rows.{numbered-rows}
use Rattle.plan_model.specs.declared.Task.{Task}
use Rattle.plan_model.specs.Output.{verdict_end, field, task_line, task_lines, table, refusal}

pub length-field : (v : ℕ) → length (field v) ≡ length (decimal v) + 1
unfolding field
length-field v = simp length-append

pub length_line : (k : ℕ) (t : Task) → length (task_line k t) ≡ length (field k) + length (field t.base) + length (field t.response) + length (verdict_end t.verdict)
unfolding task_line
length_line k t = simp length-append

pub length-table : (tasks : List Task) → length (table tasks) ≡ 27 + length (task_lines tasks)
unfolding table
length-table tasks = simp length-append

pub length-refusal : (number : ℕ) → length (refusal number) ≡ 8 + length (decimal number) + 1
unfolding refusal
length-refusal number = simp length-append

-- The lines of the first tasks, where row i is the line of the task at place i, counted from 0.
abbrev pub task_row : Task → List Task → ℕ → List ℕ
task_row none tasks i = task_line (i + 1) (get_or tasks i none)

pub task_rows : (none : Task) (n : ℕ) (tasks : List Task) → n ≤ length tasks → task_lines (take n tasks) ≡ concat (upward 0 n (task_row none tasks))
unfolding task_lines
task_rows none n tasks h = ap concat (numbered-rows none task_line n tasks h)
