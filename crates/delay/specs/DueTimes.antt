-- Due times hold: what is true after every list of events from the beginning of a history.
use Rattle.std.specs.Prelude.{◌≡◌, List, map, ℕ, ◌≤◌, ◌<◌, length}
use Rattle.std.proofs.Math.Option.{none, some}
use Rattle.model.specs.Limits.{max_stations, last_ticket}
use Rattle.model.specs.State.{fresh}
use Rattle.model.specs.Tick.{one_less}
use Rattle.model.specs.History.{Entry, History, begun, entry_due, entry_bound, starts_in, advance_in}
use Rattle.model.specs.StateOf.{state_of}
use Rattle.schedule.specs.Valid.{◌∈◌}
use Rattle.delay.specs.Events.{Event, pass_in, after_events, MayPass, AllMayHappen, state_after}

-- A history that such a list of events leaves.
pub record Reached (n : ℕ) (events : List Event) : Type 0 where
  pub low : 1 ≤ n
  pub high : n ≤ max_stations
  pub allowed : AllMayHappen (begun n) events

abbrev pub reached : ℕ → List Event → History
reached n events = after_events (begun n) events

-- An order that is out was out by its acceptance tick + delay bound over the history's interference set, and by its due tick; of one that is live the
-- clock is below both.
pub record InTime (h : History) (e : Entry) : Type 0 where
  pub out_in_time : (t : ℕ) → e.out ≡ some t → (t ≤ entry_bound h e) × (t ≤ entry_due e)
  pub live_in_time : e.out ≡ none → (h.clock < entry_bound h e) × (h.clock < entry_due e)

abbrev pub DueTimesHold : Type 0
DueTimesHold = (n : ℕ) (events : List Event) → Reached n events → (e : Entry) → e ∈ (reached n events).orders → InTime (reached n events) e

-- An advance meets by itself what is asked of a tick: after the starts a tick may come.
abbrev pub AdvanceMayCome : Type 0
AdvanceMayCome =
    (n : ℕ) (events : List Event) → Reached n events
    → let h = starts_in (reached n events) in
    MayPass h (map one_less h.services) × (pass_in (map one_less h.services) h ≡ advance_in (reached n events))

-- The stored sums and maxima are those of the history: a fresh state goes through the same events to the state that the history stands for, as long as
-- tickets are left.
abbrev pub StoredAsInHistory : Type 0
StoredAsInHistory = (n : ℕ) (events : List Event) → Reached n events → length (reached n events).orders < last_ticket → state_after (fresh n) events ≡ state_of (reached n events)

-- "At most one order is out per advance."
abbrev pub OneOutPerTick : Type 0
OneOutPerTick = (n : ℕ) (events : List Event) → Reached n events → (e f : Entry) → e ∈ (reached n events).orders → f ∈ (reached n events).orders → (t : ℕ) → e.out ≡ some t → f.out ≡ some t → e ≡ f
