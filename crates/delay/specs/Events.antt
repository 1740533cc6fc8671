-- What happens to a history: acceptances, starts and ticks; and when each may come.
use Rattle.std.specs.Prelude.{◌≡◌, true, List, [], ◌∷◌, ℕ, ◌+◌, ◌≤◌}
use Rattle.model.specs.declared.Service.{Service}
use Rattle.model.specs.Limits.{max_cost}
use Rattle.model.specs.Lists.{at, all}
use Rattle.model.specs.State.{State}
use Rattle.model.specs.Tick.{starts}
use Rattle.model.specs.DelayBound.{on_time}
use Rattle.model.specs.declared.Block.{Block}
use Rattle.model.specs.Admission.{arrival, joined_live, accept}
use Rattle.model.specs.History.{History, accept_in, starts_in, leave_in}
use Rattle.model.specs.StateOf.{state_of}
use Rattle.schedule.specs.Valid.{Ready}
use Rattle.schedule.specs.Pass.{Ticked, pass_to}

-- An acceptance; the starts; a tick after which the stations' entries are these.
pub data Event : Type 0 where
  accepting : Block → Event
  starting : Event
  passing : List Service → Event

unfoldable pub pass_in : List Service → History → History
pass_in ticked h = leave_in (record { n = h.n; clock = h.clock + 1; services = ticked; orders = h.orders })

abbrev pub happens : History → Event → History
happens h (accepting b) = accept_in b h
happens h starting = starts_in h
happens h (passing ticked) = pass_in ticked h

abbrev pub after_events : History → List Event → History
after_events h [] = h
after_events h (e ∷ later) = after_events (happens h e) later

-- An acceptance may come with costs in range that passes questions 11 and 12.
pub record MayAccept (h : History) (b : Block) : Type 0 where
  pub costs : (k : ℕ) → 1 ≤ k → k ≤ h.n → (1 ≤ at 0 b.costs k) × (at 0 b.costs k ≤ max_cost)
  pub arrival_on_time : on_time h.n (arrival (state_of h) b) ≡ true
  pub live_on_time : all (on_time h.n) (joined_live (state_of h) b) ≡ true

-- A tick may come where no idle station has a waiting order; orders in service may end early.
pub record MayPass (h : History) (ticked : List Service) : Type 0 where
  pub ready : Ready (state_of h)
  pub ticks : Ticked h.services ticked

abbrev pub MayHappen : History → Event → Type 0
MayHappen h (accepting b) = MayAccept h b
MayHappen h starting = Unit {0}
MayHappen h (passing ticked) = MayPass h ticked

abbrev pub AllMayHappen : History → List Event → Type 0
AllMayHappen h [] = Unit {0}
AllMayHappen h (e ∷ later) = MayHappen h e × AllMayHappen (happens h e) later

-- The same events on a state with stored sums and maxima.
abbrev pub state_after : State → List Event → State
state_after s [] = s
state_after s (accepting b ∷ later) = state_after (accept s b) later
state_after s (starting ∷ later) = state_after (starts s) later
state_after s (passing ticked ∷ later) = state_after (pass_to ticked s) later
