-- What is reached by no bytes, and by bytes after others.
use mathlib.Core.Path.{sym, ◌∙◌}
use mathlib.Core.List.{[], ◌++◌}
use Rattle.log_model.specs.Reading.{Fed}
use Rattle.log_model.proofs.Feeding.{fed_append}
use Rattle.log_reader.specs.Reached.{Reached}
use Rattle.log_reader.proofs.feed.FeedLaws.{fed_none}

pub reached_none : (f : Fed) → Reached f f
reached_none f = record { bytes = []; fed = fed_none f }

pub reached_more : {f g h : Fed} → Reached f g → Reached g h → Reached f h
reached_more {f} {g} {h} p q =
    record { bytes = p.bytes ++ q.bytes; fed = q.fed ∙ rw p.fed (sym (fed_append f p.bytes q.bytes)) }
