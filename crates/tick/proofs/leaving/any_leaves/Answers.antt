use Rattle.std.proofs.Common.{rules, tests, ◌∙◌, sym}
use Rattle.std.proofs.lemmas.Iterator.{YieldsList-from_slice}
use Rattle.std.proofs.lemmas.Iterator.Search.{any_from_yields_List}
use Rattle.lists.proofs.Library.{any_list}
use Rattle.tick.specs.Leaving.{finishes}
use Rattle.tick.proofs.leaving.any_leaves.Goals as goal

pub returns : goal.returns
unfolding finishes
returns c =
    any_from_yields_List finishes _ _ _ c.any.ensures.ran (YieldsList-from_slice c.args.services (search rules)) (λ x b q k. search (rules, tests))
    ∙ sym (any_list finishes c.args.services)
