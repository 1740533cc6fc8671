use Rattle.std.proofs.Common.{◌≡◌, sym, arith}
use Rattle.soundness.proofs.rows.RowLaws.{numbers_beyond}
use Rattle.model.specs.Soundness.{zero_beyond}
use Rattle.soundness.proofs.whole.RecordLaws.{held_none, held_more, held_fails}
use Rattle.soundness.proofs.counted.Counted.all_hold.Goals as goal

pub loop-i-init : goal.loop-i-init
loop-i-init c = held_none _ _ _

pub returns-then-not-ticks_hold : goal.returns-then-not-ticks_hold
returns-then-not-ticks_hold c =
    let fails = c.if-not-ticks_hold.true in
    held_fails _ _ _ _ c.loop-i.i (omega arith) (rw (c.ticks_hold.ensures, c.order_at-o.ensures, c.new-limits.ensures) at fails)

pub loop-i-preserved : goal.loop-i-preserved
loop-i-preserved c =
    let same = c.new-limits.ensures in
    let o = c.order_at-o.ensures in
    let hold = c.if-not-ticks_hold.false in
    held_more _ _ _ c.loop-i.flaws c.loop-i.ranks c.loop-i.i c.loop-i.invariant
    (rw (c.ticks_hold.ensures, o, same) at hold)
    (rw (o, same) at c.flaws_with-more_flaws.ensures)
    (rw o at (c.ranks_with-more_ranks.ensures c.args.self.n))

pub returns : goal.returns
unfolding zero_beyond
returns c =
    let e : c.loop-i.i ≡ c.args.self.live = omega arith in
    rw (numbers_beyond 0 c.loop-i.flaws c.zero_beyond.ensures, numbers_beyond c.args.self.n c.loop-i.ranks c.zero_beyond-2.ensures) (sym (rw e at c.loop-i.invariant))
