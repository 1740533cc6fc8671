use mathlib.Core.Path.{◌≡◌, refl, sym, ◌∙◌}
use native.Mathlib.Omega.{arith}
use lib.Seq.{take_all}
use borrow.Author.Rules.{rules}
use Rattle.model.specs.Lists.{largest}
use Rattle.lists.proofs.Tests.{largest_more}
use Rattle.soundness.proofs.row_figures.largest.Goals as goal

pub loop-cost-init : goal.loop-cost-init
unfolding largest
loop-cost-init c = (refl, omega arith)

pub loop-cost-preserved : goal.loop-cost-preserved
loop-cost-preserved c =
    (c.max-m.ensures ∙ rw c.loop-cost.invariant.0 (sym (largest_more c.args.costs c.loop-cost.cost-index (search rules))), c.max-m.type_inv)

pub returns : goal.returns
returns c =
    let e : c.loop-cost.cost-index ≡ 8 = search rules in
    (c.from.ensures ∙ (rw (e, take_all 8 c.args.costs (omega arith)) at c.loop-cost.invariant.0), omega (arith, c.from.ensures, c.loop-cost.invariant.1))
