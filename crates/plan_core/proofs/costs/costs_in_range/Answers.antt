use mathlib.Core.Path.{◌≡◌}
use borrow.Author.Rules.{rules}
use Rattle.std.proofs.Common.{tests}
use Rattle.std.proofs.lemmas.Iterator.{YieldsList-from_slice}
use Rattle.std.proofs.lemmas.Iterator.Search.{all_from_yields_List}
use Rattle.model.specs.Limits.{max_cost}
use Rattle.model.specs.Lists.{within}
use Rattle.lists.proofs.Library.{all_list}
use Rattle.plan_core.proofs.costs.costs_in_range.Goals as goal

pub returns : goal.returns
returns c = rw (all_list (within 1 max_cost)) (all_from_yields_List (within 1 max_cost) _ _ _ c.all.ensures.ran (YieldsList-from_slice c.args.costs.now cc) (λ x b q k. search (rules, tests)))
