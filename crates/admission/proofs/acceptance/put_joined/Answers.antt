use mathlib.Core.Path.{◌≡◌, refl, sym, ap, ◌∙◌}
use native.Mathlib.Omega.{arith}
use lib.ListN.{length}
use Rattle.model.specs.declared.Order.{Order}
use Rattle.model.specs.Lists.{concat}
use Rattle.model.specs.Layout.{record_part}
use Rattle.model.specs.Image.{order_of, order_bytes}
use Rattle.model.specs.Admission.{joined_by}
use Rattle.lists.proofs.Stores.{stored_same}
use Rattle.lists.proofs.Fills.{rows_none, rows_more}
use Rattle.admission.proofs.acceptance.AcceptLaws.{joined_rows, still}
use Rattle.admission.proofs.acceptance.put_joined.Goals as goal

pub loop-i-init : goal.loop-i-init
loop-i-init c = rows_none _ _ _ _

pub joined_by-requires : goal.joined_by-requires
joined_by-requires c =
    let read : c.order_at-o.result ≡ order_of (record_part c.args.image.now c.loop-i.i) =
    c.order_at-o.ensures ∙ ap order_of (still c.loop-i.invariant (omega arith)) in
    let sum = c.largest-top.ensures in
    (sum.0, omega (arith, sum.0, ap (λ (o : Order). o.sum) read, c.requires.by_index c.loop-i.i (omega arith)))

pub loop-i-preserved : goal.loop-i-preserved
loop-i-preserved c =
    let read : c.order_at-o.result ≡ order_of (record_part c.args.image.now c.loop-i.i) =
    c.order_at-o.ensures ∙ ap order_of (still c.loop-i.invariant (omega arith)) in
    let row = ap order_bytes (c.joined_by.ensures ∙ ap (joined_by _) read) in
    rows_more c.loop-i.invariant refl (stored_same c.put_order.ensures.0 row) (ap length (sym row) ∙ c.put_order.ensures.1)

pub returns : goal.returns
returns c =
    let e : c.loop-i.i ≡ c.args.live = omega arith in
    let rows = rw e at c.loop-i.invariant in
    let same = ap concat (joined_rows c.args.b (λ k. order_of (record_part c.args.image.now k)) c.args.live) in
    record { stored = stored_same rows.stored same; live_len = sym (ap length same) ∙ rows.long }
