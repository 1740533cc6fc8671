use mathlib.Core.Path.{◌≡◌}
use Prim.Native.Nat.{ℕ, ◌*◌, ◌≤◌, ◌<◌}
use native.Mathlib.Nat.{mul-le-mul}
use native.Mathlib.Omega.{arith}
use Rattle.model.specs.Limits.{max_cost}
use Rattle.plan_model.specs.Limits.{max_period}
use Rattle.plan_core.specs.Response.{max_share, share_of}
use Rattle.plan_core.proofs.table.Rows.{ranges}
use Rattle.plan_core.proofs.table.Row.share.Goals as goal

at_most : (releases cost : ℕ) → releases < max_period → cost ≤ max_cost → releases * cost ≤ max_share
at_most releases cost few low = let few' : releases ≤ 59999 = omega arith in mul-le-mul few' low

pub overflow_mul-releases : goal.overflow_mul-releases
overflow_mul-releases c =
    omega (arith, at_most c.releases.result c.args.self.now.cost c.releases.ensures.1 (ranges c.args.self.now c.requires.1).cost_high)

pub returns : goal.returns
unfolding share_of
returns c =
    (rw (c.from.ensures, c.releases.ensures.0), omega (arith, c.from.ensures, at_most c.releases.result c.args.self.now.cost c.releases.ensures.1 (ranges c.args.self.now c.requires.1).cost_high))
