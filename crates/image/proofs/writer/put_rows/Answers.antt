use mathlib.Core.Path.{refl, sym, ◌∙◌}
use native.Mathlib.Nat.{mul-zero}
use Rattle.model.specs.Lists.{concat}
use Rattle.lists.proofs.Stores.{stored_none, stored_then}
use Rattle.lists.proofs.RowByRow.{rows_and, length_rows_and}
use Rattle.image.proofs.writer.put_rows.Goals as goal

pub loop-i-init : goal.loop-i-init
unfolding concat
loop-i-init g c = record { stored = stored_none _ _; long = sym (mul-zero g.T.Row.SIZE); same = refl }

pub loop-i-preserved : goal.loop-i-preserved
loop-i-preserved g c =
    let inv = c.loop-i.invariant in
    let more = rows_and g.T.Row.bytes c.args.rows.now c.loop-i.i c.index-rows-i.result c.loop-i-test.true (sym c.index-rows-i.is) in
    record {
      stored = rw more (stored_then inv.stored (rw (c.SIZE.ensures, inv.long)) c.put.ensures.stored);
      long = rw more (length_rows_and _ _ _ _ inv.long c.put.ensures.long);
      same = c.put.auto.out ∙ inv.same;
    }
