use mathlib.Core.Path.{◌≡◌, ap}
use mathlib.Core.List.{List, ◌++◌}
use native.Mathlib.Omega.{arith}
use lib.ListN.{replicate, length-set}
use lib.Seq.{length-take-le}
use Rattle.std.proofs.lemmas.List.{drop-replicate}
use Rattle.model.specs.declared.Order.{Order}
use Rattle.model.specs.Image.{orders_of}
use Rattle.model.specs.Limits.{max_live}
use Rattle.lists.proofs.Fills.{fill_start, fill_next, fill_end}
use Rattle.image.specs.Pipeline.{unused}
use Rattle.image.proofs.pipeline.Unused.{default_unused}
use Rattle.image.proofs.decode.orders_of.Goals as goal

pub loop-i-init : goal.loop-i-init
loop-i-init c = (length-take-le c.args.live (replicate max_live c.default-orders.result) (omega arith), fill_start _)

pub loop-i-preserved : goal.loop-i-preserved
loop-i-preserved c =
    let inv = c.loop-i.invariant in
    (simp length-set inv.0, fill_next _ _ _ _ (omega arith) inv.1 c.order_at.ensures)

pub returns : goal.returns
returns c =
    let inv = c.loop-i.invariant in
    let live = c.args.live in
    let e : c.loop-i.i ≡ live = omega arith in
    let all = fill_end _ _ live inv.0 (rw e at inv.1) in
    rw (all, default_unused c.default-orders.ensures) (ap (λ (l : List Order). orders_of c.args.image.now live ++ l) (drop-replicate live max_live unused))
