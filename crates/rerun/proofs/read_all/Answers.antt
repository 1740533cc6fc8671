-- Nothing is reached by no bytes, and what is fed is reached by the bytes before it and its own.
use Rattle.log_reader.proofs.feed.ReachedLaws.{reached_none, reached_more}
use Rattle.rerun.proofs.read_all.Goals as goal

pub loop-init : goal.loop-init
loop-init g c = rw c.begin-s.ensures (reached_none _)

pub loop-preserved : goal.loop-preserved
loop-preserved g c = reached_more c.loop.invariant (record { bytes = _; fed = c.feed-s.ensures })
