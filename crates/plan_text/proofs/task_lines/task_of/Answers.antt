-- The costs are what stands after period and deadline.
use mathlib.Core.Path.{◌≡◌}
use Prim.Native.Nat.{ℕ, ◌+◌}
use borrow.Author.Rules.{rules}
use lib.ListN.{length, get_or}
use Rattle.model.specs.Lists.{upward}
use Rattle.lists.proofs.Arrays.{filled_same}
use Rattle.plan_model.specs.Input.{task_of}
use Rattle.plan_text.proofs.task_lines.TaskLaws.{costs_of_lem}
use Rattle.plan_text.proofs.task_lines.task_of.Goals as goal

pub returns : goal.returns
unfolding task_of
returns c =
    let vs = c.args.numbers in
    let costs : c.from_fn.result ≡ upward 0 8 (λ k. get_or vs (2 + k) 0) = filled_same (λ k. get_or vs (2 + k) 0) (λ i y q h k. search rules) c.from_fn.ensures.items in
    let d = c.default.ensures in
    let long : length vs ≡ 10 = search rules in
    rw (costs, costs_of_lem vs long, d.1.1.1.0, d.1.1.1.1.0, d.1.1.1.1.1)
