use borrow.Author.Rules.{rules}
use Rattle.lists.proofs.Library.{largest_fold}
use Rattle.plan_core.proofs.costs.largest_cost.Goals as goal

pub returns : goal.returns
returns c = rw largest_fold (search rules)
