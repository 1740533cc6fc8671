-- What is known of a row whose task is in range.
use Rattle.std.specs.Prelude.{Bool, ◌&&◌, leb}
use Rattle.model.specs.Limits.{max_cost}
use Rattle.model.specs.Lists.{within}
use Rattle.plan_model.specs.Limits.{max_period}
use Rattle.plan_core.specs.declared.table.Row.{Row}

-- A period that is not too long, a deadline from 1 to the period, and a cost that is not too high.
abbrev pub ranged : Row → Bool
ranged r = leb r.period max_period && within 1 r.period r.deadline && leb r.cost max_cost
