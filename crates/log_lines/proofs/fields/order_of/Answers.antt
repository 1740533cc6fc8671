use mathlib.Core.Path.{◌≡◌, refl}
use Prim.Native.Nat.{◌+◌}
use native.Mathlib.Omega.{arith}
use Rattle.model.specs.Limits.{max_stations}
use Rattle.lists.proofs.Fills.{pad_start, pad_next}
use Rattle.log_lines.proofs.fields.OrderLaws.{from_place, row_to_eight}
use Rattle.log_lines.proofs.fields.order_of.Goals as goal

pub loop-i-init : goal.loop-i-init
loop-i-init c =
    let f = from_place c.args.values.now in
    record { due_in = refl; ranks = pad_start (f 1) max_stations 0; costs = pad_start (f (1 + c.args.n)) max_stations 0 }

pub loop-i-preserved : goal.loop-i-preserved
loop-i-preserved c =
    let f = from_place c.args.values.now in
    let loop = c.loop-i in
    record {
      due_in = loop.invariant.due_in;
      ranks = pad_next (f 1) max_stations 0 _ loop.i _ (omega arith) loop.invariant.ranks refl;
      costs = pad_next (f (1 + c.args.n)) max_stations 0 _ loop.i _ (omega arith) loop.invariant.costs refl;
    }

pub returns : goal.returns
returns c =
    let values = c.args.values.now in
    let n = c.args.n in
    let end : c.loop-i.i ≡ n = omega arith in
    let done = c.loop-i.invariant in
    rw (done.due_in, done.ranks, done.costs, end, row_to_eight values 1 n (omega arith), row_to_eight values (1 + n) n (omega arith))
