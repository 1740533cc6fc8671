-- One byte more is a line feed, or is held, or is passed over.
use mathlib.Core.Path.{refl, ◌∙◌}
use lib.ListN.{get_or, length-set}
use borrow.Author.Rules.{rules}
use Rattle.log_reader.proofs.feed.FeedLaws.{fed_none, fed_more, line_fed, byte_held, byte_passed}
use Rattle.log_reader.proofs.feed.feed.Goals as goal

pub loop-b-init : goal.loop-b-init
loop-b-init c = record { long = search rules; so_far = fed_none _; same = refl }

pub loop-b-preserved : goal.loop-b-preserved
loop-b-preserved c =
    let loop = c.loop-b in
    let done = loop.invariant in
    let b = get_or c.args.chunk.now loop.b-index 0 in
    let more = fed_more _ c.args.chunk.now loop.b-index (search rules) done.so_far in
    elim c.if-b-eq-LINE_FEED.branch [
      | goal.then-b-eq-LINE_FEED w ↦
          rw (w.log-is, w.pending-is, w.held-is)
          (record { long = done.long; so_far = more _ (line_fed _ _ _ _ b _ w.if-b-eq-LINE_FEED.true done.long w.min.ensures w.line_ended.ensures.is); same = w.line_ended.ensures.same ∙ done.same })
      | goal.else-b-eq-LINE_FEED+then-held-lt-MAX_LINE w ↦
          rw (w.log-is, w.pending-is, w.held-is)
          (record { long = length-set loop.pending loop.held b ∙ done.long; so_far = more _ (byte_held _ _ _ _ b w.if-b-eq-LINE_FEED.false w.if-held-lt-MAX_LINE.true); same = done.same })
      | goal.else-b-eq-LINE_FEED+else-held-lt-MAX_LINE w ↦
          rw (w.log-is, w.pending-is, w.held-is)
          (record { long = done.long; so_far = more _ (byte_passed _ _ _ _ b w.if-b-eq-LINE_FEED.false w.if-held-lt-MAX_LINE.false); same = done.same })
    ]
