-- Plan's questions, and the figures of a list of records.
use Rattle.std.specs.Prelude.{Result, Ok, Err, cond, List, ℕ, length}
use Rattle.arrayvec.specs.ArrayVec.{ArrayVec}
use Rattle.model.specs.Limits.{max_stations}
use Rattle.model.specs.Lists.{within, all, numbered}
use Rattle.plan_model.specs.declared.Task.{Task}
use Rattle.plan_model.specs.Limits.{max_tasks}
use Rattle.plan_model.specs.Base.{base}
use Rattle.plan_model.specs.Plan.{in_range, response}
use Rattle.plan_core.specs.declared.refusal.Refusal.{Refusal}
use Rattle.plan_core.specs.declared.refusal.Refusal.TheVariants.{Stations, Count, Figures}
use Rattle.plan_core.specs.declared.figures.Figure.{Figure}

-- The figures of the task at place i of a list.
unfoldable pub figure : ℕ → List Task → ℕ → Task → Figure
figure n tasks i t = let b = base n tasks t in record { base = b; response = response n tasks i t b }

unfoldable pub figures : ℕ → List Task → List Figure
figures n tasks = numbered (figure n tasks) 0 tasks

-- "in that order": the first question that is answered "no", or the figures.
unfoldable pub core_of : ℕ → List Task → Result (ArrayVec Figure) Refusal
core_of n tasks =
    cond (within 1 max_stations n)
    (cond (within 1 max_tasks (length tasks)) (cond (all (in_range n) tasks) (Ok (record { items = figures n tasks })) (Err Figures)) (Err Count))
    (Err Stations)
