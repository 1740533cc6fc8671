-- An input whose form passed has no more tasks than the array.
use mathlib.Core.Path.{◌≡◌, refl, ap, ◌∙◌}
use Prim.Native.Nat.{◌≤◌}
use native.Mathlib.Nat.{min-eq_left}
use native.Mathlib.Numerals.{add-one}
use native.Mathlib.Omega.{arith}
use Rattle.plan_model.specs.Limits.{max_tasks}
use Rattle.plan_text.proofs.input.AnswerLaws.{accepted}
use Rattle.probe.specs.Rounds.{tasks_after, last_number}
use Rattle.probe.proofs.plans.plan_probe_rounds.Goals as goal

pub loop-init : goal.loop-init
unfolding last_number tasks_after
loop-init c = (refl, refl)

pub loop-preserved : goal.loop-preserved
unfolding last_number tasks_after
loop-preserved c =
    let all : c.min-held.result ≡ c.in-Ok.set.count = c.min-held.ensures ∙ min-eq_left (accepted c.args.input.now c.in-Ok.ensures).count_high in
    let said = rw all at c.plan-number.ensures in
    rw (add-one c.loop.counter, ← c.loop.invariant.1, all) (said.0, rw said.1)
