use Rattle.plan_model.specs.Base.{largest_cost}
use Rattle.plan_core.specs.Table.{row_of, row_in}
use Rattle.plan_core.proofs.table.Row.of.Goals as goal

pub returns-then-not-in_range : goal.returns-then-not-in_range
unfolding row_in
returns-then-not-in_range c = rw (← c.in_range.ensures, c.if-not-in_range.true)

pub returns : goal.returns
unfolding row_in row_of largest_cost
returns c = rw (← c.in_range.ensures, c.if-not-in_range.false, c.largest_cost.ensures)
