-- The task set as plain numbers.
use Rattle.std.specs.Prelude.{Result, Ok, Err, cond, List, map, ℕ}
use Rattle.plan_model.specs.declared.Task.{Task}
use Rattle.plan_model.specs.Base.{largest_cost}
use Rattle.plan_model.specs.Plan.{in_range}
use Rattle.plan_core.specs.declared.table.Row.{Row}
use Rattle.plan_core.specs.declared.refusal.Refusal.{Refusal}
use Rattle.plan_core.specs.declared.refusal.Refusal.TheVariants.{Figures}

-- The row of a task, whether it is in range or not.
unfoldable pub row_of : ℕ → Task → Row
row_of stations t = record { period = t.period; deadline = t.deadline; cost = largest_cost stations t }

-- The rows of a list.
abbrev pub rows_of : ℕ → List Task → List Row
rows_of stations tasks = map (row_of stations) tasks

-- Question 18 of one task, and its row.
unfoldable pub row_in : ℕ → Task → Result Row Refusal
row_in stations t = cond (in_range stations t) (Ok (row_of stations t)) (Err Figures)
