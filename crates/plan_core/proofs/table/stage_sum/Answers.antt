use borrow.Author.Rules.{rules}
use Rattle.lists.proofs.Library.{total_sum}
use Rattle.plan_core.proofs.table.stage_sum.Goals as goal

pub sum-requires-clause-fits : goal.sum-requires-clause-fits
sum-requires-clause-fits c = search (rules, total_sum)

pub returns : goal.returns
returns c = rw total_sum (search rules)
