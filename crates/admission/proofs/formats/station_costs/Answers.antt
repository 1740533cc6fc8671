use mathlib.Core.Path.{◌≡◌, ◌∙◌}
use Prim.Native.Nat.{suc, ◌+◌}
use native.Mathlib.Omega.{arith}
use Rattle.model.specs.Lists.{at, rounded_up}
use Rattle.lists.proofs.Fills.{pad_start, pad_next}
use Rattle.admission.specs.Formats.{held_cost}
use Rattle.admission.proofs.formats.FormatLaws.{filled}
use Rattle.admission.proofs.formats.station_costs.Goals as goal

pub loop-k-init : goal.loop-k-init
loop-k-init c = pad_start _ 8 0

pub station_cost-requires : goal.station_cost-requires
station_cost-requires c = c.requires.1 (suc c.loop-k.k) (omega arith) (omega arith)

pub loop-k-preserved : goal.loop-k-preserved
loop-k-preserved c =
    let few = c.requires.0 in
    pad_next _ 8 0 _ _ _ (omega arith) c.loop-k.invariant c.station_cost.ensures

pub returns : goal.returns
returns c =
    let e : c.loop-k.k ≡ c.args.n = omega arith in
    rw e at c.loop-k.invariant ∙ filled c.args.n (λ k. held_cost (at 0 c.args.fixed k + rounded_up c.args.side (at 0 c.args.speeds k))) c.requires.0
