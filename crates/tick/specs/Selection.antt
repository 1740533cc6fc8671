-- Document 01, "Each idle station with waiting orders starts the one with the smallest rank there", and document 02, (v), "Equal ranks should go by the earlier
-- due tick, then by the smaller ticket", as code goes about it: for each station the order that would start there.
use Rattle.std.specs.Prelude.{cond, ◌||◌, List, [], ◌∷◌, ℕ, ◌≤◌, take}
use Rattle.std.proofs.Math.Option.{Option, none, some}
use Rattle.model.specs.declared.Order.{Order}
use Rattle.model.specs.declared.Service.{Service}
use Rattle.model.specs.Limits.{max_stations, max_live}
use Rattle.model.specs.Lists.{at, is_zero, numbered}
use Rattle.model.specs.Tick.{View, before, first}
use Rattle.schedule.specs.Valid.{◌∈◌}
use Rattle.tick.specs.declared.selection.Candidate.{Candidate}

-- A live order by which a station's candidate can be found: its ticket tells it from nobody, and it is at one of eight stations.
pub record Placed (o : Order) : Type 0 where
  pub named : 1 ≤ o.ticket
  pub low : 1 ≤ o.station
  pub high : o.station ≤ max_stations

-- An array of records of which the first `live` are such orders.
pub record Queue (orders : List Order) (live : ℕ) : Type 0 where
  pub room : live ≤ max_live
  pub placed : (o : Order) → o ∈ take live orders → Placed o

abbrev pub nobody : Candidate
nobody = record { ticket = 0; due = 0; left = 0; rank = 0 }

-- What is kept of the order that goes first at station k.
unfoldable pub candidate_of : ℕ → Option View → Candidate
candidate_of k none = nobody
candidate_of k (some v) = record { ticket = v.ticket; due = v.due; left = at 0 v.costs k; rank = at 0 v.ranks k }

-- The candidate of station k, whose entry is e: of a busy station nobody.
unfoldable pub candidate_for : List View → ℕ → Service → Candidate
candidate_for views k e = cond (is_zero e.ticket) (candidate_of k (first k views)) nobody

-- The candidates of the stations.
unfoldable pub candidates : List View → List Service → List Candidate
candidates views services = numbered (candidate_for views) 1 services

-- The figures of a candidate that decide, in the order of `key_at`.
unfoldable pub key_of : Candidate → List ℕ
key_of c = c.rank ∷ c.due ∷ c.ticket ∷ []

-- Of two candidates, the second of whom may be nobody, the one that goes first.
unfoldable pub preferred : Candidate → Candidate → Candidate
preferred one other = cond (is_zero other.ticket || before (key_of one) (key_of other)) one other
