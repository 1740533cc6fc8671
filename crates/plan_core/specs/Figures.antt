-- Bases and responses over plain numbers.
use Rattle.std.specs.Prelude.{List, ℕ, ◌+◌}
use Rattle.model.specs.Lists.{numbered}
use Rattle.plan_model.specs.Response.{response_from}
use Rattle.plan_core.specs.declared.table.Row.{Row}
use Rattle.plan_core.specs.declared.figures.Figure.{Figure}
use Rattle.plan_core.specs.Response.{step_of}

-- The figures of the task at place i, where the largest costs at the stations before the last come to so many ticks.
unfoldable pub figure_at : List Row → ℕ → ℕ → Row → Figure
figure_at rows stages i row =
    let base = row.cost + stages in
    record { base = base; response = response_from (step_of rows i base) row.deadline base }

unfoldable pub figures_of : List Row → ℕ → List Figure
figures_of rows stages = numbered (figure_at rows stages) 0 rows
