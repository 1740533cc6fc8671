use Rattle.std.proofs.Common.{arith, rules}
use Rattle.trials.proofs.Draws.{drawing_start, drawing_next, drawing_end}
use Rattle.trials.proofs.draw.draw_costs.Goals as goal

pub loop-k-init : goal.loop-k-init
loop-k-init c = drawing_start _ _ _ _ (search rules)

pub loop-k-preserved : goal.loop-k-preserved
loop-k-preserved c = drawing_next c.loop-k.invariant (omega arith) c.step-s.ensures c.cost_of.ensures

pub returns : goal.returns
returns c = drawing_end c.loop-k.invariant (omega arith)
