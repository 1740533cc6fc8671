-- Document 01, "Each idle station with waiting orders starts the one with the smallest rank there", as code goes about it: the start with a candidate.
use Rattle.std.specs.Prelude.{cond, List}
use Rattle.model.specs.declared.Service.{Service}
use Rattle.model.specs.Lists.{at, is_zero, numbered}
use Rattle.tick.specs.declared.selection.Candidate.{Candidate}
use Rattle.tick.specs.Selection.{nobody}

-- The entry of a station once its candidate has started, if it was idle.
unfoldable pub start_with : Candidate → Service → Service
start_with c e = cond (is_zero e.ticket) (record { ticket = c.ticket; left = c.left }) e

unfoldable pub start_all : List Candidate → List Service → List Service
start_all found services = numbered (λ k e. start_with (at nobody found k) e) 1 services
