use mathlib.Core.Path.{◌≡◌}
use Prim.Native.Nat.{◌+◌}
use native.Mathlib.Omega.{arith}
use Rattle.plan_model.proofs.Sequence.{stands_first, stands_past, stands_repeating, stands_next}
use Rattle.plan_core.specs.Response.{step_of}
use Rattle.plan_core.proofs.response.StepLaws.{step_rises, step_from}
use Rattle.plan_core.proofs.table.Table.response.Goals as goal

pub loop-r-init : goal.loop-r-init
loop-r-init c =
    let a = c.args in
    let rows = a.self.now.rows.items in
    rw c.from-first.ensures (stands_first (step_of rows a.t a.base) a.deadline a.base (step_from rows a.t a.base a.base))

pub loop-r-smaller : goal.loop-r-smaller
unfolding step_of
loop-r-smaller c =
    let a = c.args in
    -- what the code takes for the next R is the step's
    let stepped : step_of a.self.now.rows.items a.t a.base c.loop-r.r ≡ c.from-first.result + c.interference.result = omega (arith, c.interference.ensures.0, c.from-first.ensures) in
    omega (arith, stepped, c.loop-r.invariant.up, c.if-next-r.false)

pub loop-r-preserved : goal.loop-r-preserved
unfolding step_of
loop-r-preserved c =
    let a = c.args in
    let rows = a.self.now.rows.items in
    let r = c.loop-r.r in
    let step = step_of rows a.t a.base in
    let stepped : step r ≡ c.from-first.result + c.interference.result = omega (arith, c.interference.ensures.0, c.from-first.ensures) in
    rw (← stepped) (stands_next step a.deadline (step_rises rows a.t a.base a.self.now.ranged) r _ (omega arith) (λ e. omega (arith, stepped, e, c.if-next-r.false)) c.loop-r.invariant)

pub returns-then-limit-r : goal.returns-then-limit-r
returns-then-limit-r c = stands_past _ _ _ _ (omega (arith, c.if-limit-r.true)) c.loop-r.invariant

pub returns-then-next-r : goal.returns-then-next-r
unfolding step_of
returns-then-next-r c =
    let a = c.args in
    let r = c.loop-r.r in
    let step = step_of a.self.now.rows.items a.t a.base in
    let e : step r ≡ r = omega (arith, c.interference.ensures.0, c.from-first.ensures, c.if-next-r.true) in
    stands_repeating step a.deadline r _ e c.loop-r.invariant
