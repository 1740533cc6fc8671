use mathlib.Core.Path.{◌≡◌, refl, sym, ◌∙◌}
use mathlib.Core.Bool.{Bool, true, false}
use mathlib.Core.List.{List}
use Prim.Native.Nat.{ℕ, ◌<◌}
use native.Mathlib.Omega.{arith}
use borrow.Author.Rules.{rules}
use lib.ListN.{length, get_or, take, length-map}
use lib.Seq.{take_all, length-take-le}
use Rattle.std.proofs.lemmas.Result.{err_from_is_err_and}
use Rattle.model.specs.Lists.{all, larger}
use Rattle.model.specs.DelayBound.{maxima_of}
use Rattle.lists.proofs.Tests.{either, all-next, all-at}
use Rattle.plan_model.specs.Base.{stage_maxima}
use Rattle.plan_model.specs.Plan.{in_range}
use Rattle.plan_model.specs.Records.{beyond}
use Rattle.plan_model.proofs.Ranges.{stages_most}
use Rattle.plan_core.specs.Table.{row_of, row_in, rows_of}
use Rattle.plan_core.proofs.table.Rows.{row_ok, row_err, maxima_next, rows_next, zeros_add, rows_ranged}
use Rattle.plan_core.proofs.table.Table.of.Goals as goal

-- One that fails is enough.
one_fails : {A : Type 0} (test : A → Bool) (d : A) (l : List A) (k : ℕ) → k < length l → test (get_or l k d) ≡ false → all test l ≡ false
one_fails test d l k h e =
    either (λ b. all test l ≡ b → b ≡ false) (all test l) (λ t q. sym (all-at test d l k h q) ∙ e) (λ f q. refl) refl

pub loop-task-init : goal.loop-task-init
unfolding all stage_maxima maxima_of larger
loop-task-init c = record { in_range = refl; rows = c.new-rows.ensures; maxima = refl; before = c.saturating_sub-before.ensures }

pub returns-in_err-of : goal.returns-in_err-of
returns-in_err-of c =
    let tasks = c.args.tasks.now in
    let k = c.loop-task.task-index in
    let refused = row_err c.args.stations (get_or tasks k beyond) c.in_err-of.field-0.0 c.in_err-of.ensures in
    let p = err_from_is_err_and c.from_residual.result c.from_residual.ensures.1 in
    rw (p.1, p.2) (refused.1, one_fails (in_range c.args.stations) beyond tasks k (omega arith) refused.0)

pub loop-task-preserved : goal.loop-task-preserved
loop-task-preserved c =
    let tasks = c.args.tasks.now in
    let k = c.loop-task.task-index in
    let so_far = c.loop-task.invariant in
    let row = row_ok c.args.stations (get_or tasks k beyond) c.in_ok-of.field-0 c.in_ok-of.ensures in
    record {
      in_range = rw (all-next (in_range c.args.stations) beyond tasks k (omega arith), so_far.in_range) row.0;
      rows = rw (c.push.ensures.items, so_far.rows, row.1, rows_next c.args.stations tasks k (omega arith));
      maxima = rw (c.larger_costs.ensures, so_far.maxima, so_far.before) (maxima_next c.args.stations tasks k (omega arith));
      before = so_far.before;
    }

pub stage_sum-requires : goal.stage_sum-requires
stage_sum-requires c =
    let tasks = c.args.tasks.now in
    let last = c.loop-task.invariant in
    let whole : take c.loop-task.task-index tasks ≡ tasks = take_all c.loop-task.task-index tasks (omega arith) in
    rw (last.maxima, zeros_add 8 _, whole) (stages_most c.args.stations tasks c.requires.1 (rw whole at last.in_range))

pub invariant_of-result : goal.invariant_of-result
invariant_of-result c =
    let tasks = c.args.tasks.now in
    let last = c.loop-task.invariant in
    let whole : take c.loop-task.task-index tasks ≡ tasks = take_all c.loop-task.task-index tasks (omega arith) in
    record {
      ranged = rw (last.rows, whole) (rows_ranged c.args.stations tasks (rw whole at last.in_range));
      stages_high = rw (c.stage_sum.ensures, last.maxima, zeros_add 8 _, whole) (stages_most c.args.stations tasks c.requires.1 (rw whole at last.in_range));
    }

pub returns : goal.returns
returns c =
    let tasks = c.args.tasks.now in
    let last = c.loop-task.invariant in
    let whole : take c.loop-task.task-index tasks ≡ tasks = take_all c.loop-task.task-index tasks (omega arith) in
    (rw whole at last.in_range, rw whole at last.rows, rw (c.stage_sum.ensures, last.maxima, zeros_add 8 _, whole))
