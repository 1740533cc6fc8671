use Rattle.std.proofs.Common.{◌≡◌, length, rules, arith, sym}
use lib.Seq.{take_all}
use Rattle.model.specs.Limits.{max_cost}
use Rattle.model.specs.Lists.{within, at}
use Rattle.lists.proofs.Tests.{stations_none, stations_more}
use Rattle.soundness.specs.Rows.{maxima_hold}
use Rattle.soundness.proofs.rows.maxima_in_range.Goals as goal

pub loop-k-init : goal.loop-k-init
loop-k-init c = stations_none _ c.args.n

pub loop-k-preserved : goal.loop-k-preserved
loop-k-preserved c =
    let row = c.args.maxima in
    let long : length row ≡ 8 = search rules in
    rw c.loop-k.invariant (sym (stations_more (λ j m. within (at 0 c.args.costs j) max_cost m) 0 c.args.n row c.loop-k.k (omega arith)))

pub returns : goal.returns
unfolding maxima_hold
returns c =
    let row = c.args.maxima in
    let long : length row ≡ 8 = search rules in
    let e : c.loop-k.k ≡ 8 = omega arith in
    rw (e, take_all 8 row (omega arith)) at c.loop-k.invariant
