-- `feed` goes through the bytes of a chunk: the loop has fed the first so many of them.
use mathlib.Core.Path.{◌≡◌}
use lib.ListN.{length, take}
use Rattle.log_model.specs.Limits.{max_line}
use Rattle.log_model.specs.Reading.{fed_all}
use Rattle.log_reader.proofs.feed.FeedLaws.{fed}
use Rattle.log_reader.proofs.feed.feed.Given as goal

abbrev pub invariant-loop-b : goal.invariant-loop-b
invariant-loop-b l = record {
  long : length l.pending ≡ max_line;
  so_far : fed l.log.rerun l.pending l.held l.log.image.now ≡ fed_all (fed l.initial.log.rerun l.initial.pending l.initial.held l.initial.log.image.now) (take l.b-index l.chunk);
  same : l.log.image.ghost_name ≡ l.initial.log.image.ghost_name;
}
