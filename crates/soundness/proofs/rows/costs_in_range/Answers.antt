use Rattle.std.proofs.Common.{◌≡◌, length, rules, arith, sym}
use lib.Seq.{take_all}
use Rattle.model.specs.Limits.{max_cost}
use Rattle.model.specs.Lists.{within}
use Rattle.model.specs.Soundness.{costs_in_range}
use Rattle.lists.proofs.Tests.{first_none, all_first}
use Rattle.soundness.proofs.rows.costs_in_range.Goals as goal

pub loop-k-init : goal.loop-k-init
loop-k-init c = first_none (within 1 max_cost) c.args.n

pub loop-k-preserved : goal.loop-k-preserved
loop-k-preserved c =
    let row = c.args.costs in
    let long : length row ≡ 8 = search rules in
    rw c.loop-k.invariant (sym (all_first (within 1 max_cost) 0 c.args.n row c.loop-k.k (omega arith)))

pub returns : goal.returns
unfolding costs_in_range
returns c =
    let row = c.args.costs in
    let long : length row ≡ 8 = search rules in
    let e : c.loop-k.k ≡ 8 = omega arith in
    rw (e, take_all 8 row (omega arith)) at c.loop-k.invariant
