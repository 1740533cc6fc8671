-- The step of the response iteration over plain numbers: what replaces R for task t, by the rows of all tasks.
use Rattle.std.specs.Prelude.{List, map, ℕ, ◌+◌, ◌*◌}
use Rattle.model.specs.Lists.{total}
use Rattle.plan_model.specs.Response.{releases, others}
use Rattle.plan_core.specs.declared.table.Row.{Row}

-- What a task adds to R.
unfoldable pub share_of : ℕ → Row → ℕ
share_of R row = releases R row.deadline row.period * row.cost

-- What all tasks add but for the one at place t.
unfoldable pub interference_of : List Row → ℕ → ℕ → ℕ
interference_of rows t R = total (others t (map (share_of R) rows))

unfoldable pub step_of : List Row → ℕ → ℕ → ℕ → ℕ
step_of rows t base R = base + interference_of rows t R

-- The most that one task adds to an R below 60,000: as many releases as R has ticks.
abbrev pub max_share : ℕ
max_share = 359994000
