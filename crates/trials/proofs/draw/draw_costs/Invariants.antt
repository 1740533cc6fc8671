-- The loop fills the row from the front, a step of the generator for each cost.
use Rattle.trials.proofs.Draws.{Drawing}
use Rattle.trials.proofs.draw.draw_costs.Given as goal

abbrev pub invariant-loop-k : goal.invariant-loop-k
invariant-loop-k l = Drawing l.seed l.n l.most l.k l.row l.s
