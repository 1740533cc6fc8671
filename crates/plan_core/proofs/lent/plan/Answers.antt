-- The figures are those of a done plan, and the walk puts them into the records; a decline does not come to it.
use mathlib.Core.Path.{◌≡◌, ◌∙◌}
use native.Mathlib.Omega.{arith}
use lib.ListN.{length}
use Rattle.plan_core.proofs.by_value.Laws.{done, refused, done_left, refused_left}
use Rattle.plan_core.proofs.lent.Walk.{walked_all, walked_next, length-figures}
use Rattle.plan_core.proofs.lent.plan.Goals as goal

pub returns-in-Err : goal.returns-in-Err
returns-in-Err c =
    let n = c.args.n in
    let tasks = c.args.tasks.now in
    (c.from.ensures ∙ refused n tasks c.in-Err.refusal c.in-Err.ensures, refused_left n tasks c.in-Err.refusal c.in-Err.ensures)

pub bounds-figures-i : goal.bounds-figures-i
bounds-figures-i c =
    let is = c.as_slice-figures.ensures.value ∙ (done c.args.n c.args.tasks.now c.in-Ok.figures c.in-Ok.ensures).1 in
    rw is (omega (arith, length-figures c.args.n c.args.tasks.now))

pub loop-i-preserved : goal.loop-i-preserved
loop-i-preserved c =
    let is = c.as_slice-figures.ensures.value ∙ (done c.args.n c.args.tasks.now c.in-Ok.figures c.in-Ok.ensures).1 in
    rw (c.fill_task.ensures, c.loop-i.invariant) (walked_next c.args.n c.args.tasks.now c.loop-i.i (omega arith) _ is)

pub returns : goal.returns
returns c =
    let n = c.args.n in
    let tasks = c.args.tasks.now in
    let fs = c.in-Ok.figures in
    ((done n tasks fs c.in-Ok.ensures).0, c.loop-i.invariant ∙ walked_all n tasks c.loop-i.i (omega arith) ∙ done_left n tasks fs c.in-Ok.ensures)
