-- There are fewer releases than the longest period has ticks.
use mathlib.Core.Path.{refl}
use native.Mathlib.Omega.{arith}
use Rattle.model.specs.Lists.{rounded_up}
use Rattle.plan_model.specs.Response.{releases}
use Rattle.plan_core.proofs.table.Rows.{ranges}
use Rattle.plan_core.proofs.response.StepLaws.{few_releases}
use Rattle.plan_core.proofs.table.Row.releases.Goals as goal

pub returns : goal.returns
unfolding releases rounded_up
returns c =
    let row = c.args.self.now in
    let known = ranges row c.requires.1 in
    (refl, omega (arith, few_releases c.args.r row.deadline row.period known.deadline_low known.deadline_high c.requires.0))
