-- The form is asked first, and plan's questions after it. A list that plan was lent is as long as it was.
use mathlib.Core.Path.{◌≡◌, sym, ap, ◌∙◌}
use mathlib.Core.List.{◌++◌}
use Prim.Native.Nat.{◌≤◌}
use native.Mathlib.Omega.{arith}
use borrow.Author.Rules.{rules}
use lib.ListN.{length, drop}
use lib.Seq.{length-take-le}
use Rattle.std.proofs.lemmas.Result.{err_from_is_err_and}
use Rattle.plan_model.specs.Limits.{max_tasks}
use Rattle.plan_text.proofs.input.AnswerLaws.{accepted}
use Rattle.plan_text.proofs.print.Laws.{form_declined, plan_declined, plan_done}
use Rattle.plan_text.proofs.print.planned.Goals as goal

pub returns-in_err-n : goal.returns-in_err-n
returns-in_err-n c =
    let p = err_from_is_err_and c.from_residual.result c.from_residual.ensures.1 in
    rw (p.1, p.2) (form_declined c.args.input.now _ c.in_err-n.ensures)

pub slice_bounds-tasks-end : goal.slice_bounds-tasks-end
slice_bounds-tasks-end c =
    let set = c.in_ok-n.field-0 in
    let long : length set.tasks ≡ 32 = search rules in
    omega (arith, (accepted c.args.input.now c.in_ok-n.ensures).count_high)

pub slice_bounds-plan-end : goal.slice_bounds-plan-end
slice_bounds-plan-end c =
    let set = c.in_ok-n.field-0 in
    let long : length set.tasks ≡ 32 = search rules in
    let few : set.count ≤ max_tasks = (accepted c.args.input.now c.in_ok-n.ensures).count_high in
    sym (length-take-le set.count set.tasks (omega arith))

pub returns-in-0 : goal.returns-in-0
returns-in-0 c =
    plan_done c.args.input.now c.in_ok-n.field-0 c.in_ok-n.ensures _ (sym c.in-0.is ∙ c.plan.ensures.0) (ap (λ l. l ++ drop c.in_ok-n.field-0.count c.in_ok-n.field-0.tasks) c.plan.ensures.1)

pub returns-in_default : goal.returns-in_default
returns-in_default c =
    let some : c.plan.result ≡ 0 → ⊥ = search rules in
    plan_declined c.args.input.now c.in_ok-n.field-0 c.in_ok-n.ensures c.plan.result c.plan.ensures.0 some
