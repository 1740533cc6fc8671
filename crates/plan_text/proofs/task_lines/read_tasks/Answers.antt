use mathlib.Core.Path.{◌≡◌, sym, ap, ◌∙◌}
use mathlib.Core.List.{List, ◌∷◌}
use Prim.Native.Nat.{ℕ, ◌+◌, ◌≤◌, ◌<◌}
use native.Mathlib.Omega.{arith}
use borrow.Author.Rules.{rules}
use borrow.Author.Tests.{eqb-true, eqb-false}
use lib.ListN.{length, take, replicate}
use Rattle.std.proofs.Common.{Option, Some, None, Err, tests}
use Rattle.std.proofs.lemmas.List.{take-replicate}
use Rattle.std.proofs.lemmas.Result.{err_from_is_err_and}
use Rattle.plan_model.specs.Limits.{max_tasks, max_numbers}
use Rattle.text.specs.Parts.{line_feed, parts, parts_after}
use Rattle.text.specs.Numbers.{numbers_in}
use Rattle.plan_text.specs.declared.answer.Form.TheVariants.{NotTasks}
use Rattle.plan_text.proofs.task_lines.TaskLaws.{was_task, was_no_task, default_blank}
use Rattle.plan_text.proofs.task_lines.TableLaws.{reading_none, reading_more, other_line, full, alone, no_line, unended, all_lines}
use Rattle.plan_text.proofs.task_lines.read_tasks.Goals as goal
use Rattle.plan_text.proofs.task_lines.read_tasks.Goals.{then-count-eq0-via-then-count-eq0, then-count-eq0-via-else-count-eq0+then-not-is_empty}

pub loop-line-init : goal.loop-line-init
loop-line-init c = rw (default_blank c.default-tasks.ensures) (reading_none _ _)

pub returns-then-count-eq-MAX_TASKS : goal.returns-then-count-eq-MAX_TASKS
returns-then-count-eq-MAX_TASKS c =
    let next = rw c.in_default-Some.is-1 at c.first_part.ensures.split in
    full c.loop-line.invariant _ _ next (omega arith)

pub returns-in_err-numbers : goal.returns-in_err-numbers
returns-in_err-numbers c =
    let next = rw c.in_default-Some.is-1 at c.first_part.ensures.split in
    let p = err_from_is_err_and c.from_residual.result c.from_residual.ensures.1 in
    let none = c.in_err-numbers.ensures.ok_part in
    let is : c.numbers_in.result ≡ numbers_in max_numbers (replicate (2 + c.args.n) 999999999) c.first_part.result.0.now = c.numbers_in.ensures ∙ rw (take-replicate {X = ℕ} (2 + c.args.n) 10 999999999 (omega arith)) in
    let said = rw none at c.in_err-numbers.ensures.value in
    let e : c.in_err-numbers.field-0.0 ≡ NotTasks = cc in
    rw (p.1, p.2, e) (other_line c.loop-line.invariant _ _ next (was_no_task c.args.n _ is none))

pub loop-line-preserved : goal.loop-line-preserved
loop-line-preserved c =
    let next = rw c.in_default-Some.is-1 at c.first_part.ensures.split in
    let is : c.numbers_in.result ≡ numbers_in max_numbers (replicate (2 + c.args.n) 999999999) c.first_part.result.0.now = c.numbers_in.ensures ∙ rw (take-replicate {X = ℕ} (2 + c.args.n) 10 999999999 (omega arith)) in
    let task = was_task c.args.n _ is (omega arith) c.in_ok-numbers.ensures.ok_part in
    let room : c.loop-line.count < max_tasks = omega (arith, c.loop-line.invariant.few) in
    rw c.in_default-Some.rest-is (reading_more c.loop-line.invariant _ _ next task.0 (c.task_of.ensures ∙ task.1) room)

pub returns-then-count-eq0 : goal.returns-then-count-eq0
returns-then-count-eq0 c =
    let none : c.first_part.result.1 ≡ None = search rules in
    let last = rw none at c.first_part.ensures.split in
    let whole : c.loop-line.left.now ≡ c.first_part.result.0.now = alone line_feed _ _ last in
    elim c.then-count-eq0.branch [
      | then-count-eq0-via-then-count-eq0 w ↦ no_line c.loop-line.invariant _ last w.if-count-eq0.true
      | then-count-eq0-via-else-count-eq0+then-not-is_empty w ↦ unended c.loop-line.invariant _ last (λ z. eqb-false _ _ (sym w.is_empty.ensures ∙ w.if-not-is_empty.true) (ap length whole ∙ z))
    ]

pub returns : goal.returns
returns c =
    let none : c.first_part.result.1 ≡ None = search rules in
    let last = rw none at c.first_part.ensures.split in
    let whole : c.loop-line.left.now ≡ c.first_part.result.0.now = alone line_feed _ _ last in
    all_lines c.loop-line.invariant _ last c.if-count-eq0.false (ap length (sym whole) ∙ eqb-true _ _ (sym c.is_empty.ensures ∙ c.if-not-is_empty.false))
