-- The premises of `DueTimesHold` can be met: a list of events with three acceptances, an advance, and a tick in which all that is in service ends early. (`read_row` names all that the calls compute with.)
use mathlib.Core.Path.{◌≡◌, refl}
use mathlib.Core.List.{List, [], ◌∷◌, map}
use Prim.Native.Nat.{ℕ, ◌≤◌}
use native.Mathlib.Omega.{arith}
use lib.ListN.{length-map}
use Rattle.model.specs.declared.Service.{Service}
use Rattle.model.specs.Limits.{max_cost}
use Rattle.model.specs.State.{idle}
use Rattle.model.specs.Tick.{one_less}
use Rattle.model.specs.declared.Block.{Block}
use Rattle.model.specs.History.{Entry, History, begun, entry_bound, accept_in, starts_in}
use Rattle.model.specs.Table.{read_row}
use Rattle.schedule.specs.Valid.{◌∈◌}
use Rattle.schedule.specs.Pass.{Ticked}
use Rattle.schedule.proofs.Laws.{same_ticket, same_left, at_map}
use Rattle.schedule.proofs.Pass.{ticked_plain}
use Rattle.schedule.proofs.Example.{of_two}
use Rattle.delay.specs.Events.{Event, accepting, starting, passing, pass_in, MayAccept, MayPass}
use Rattle.delay.specs.DueTimes.{Reached, reached, InTime}
use Rattle.delay.proofs.DueTimes.{Kept, kept_begun, kept_accept, kept_starts, kept_pass, may_pass, due_times_hold}

-- every order in service ends now
ended : Service → Service
ended e = record { ticket = e.ticket; left = 0 }

ticked_ended : (l : List Service) → Ticked l (map ended l)
unfolding ended
ticked_ended l = record { count = length-map l ended; tickets = λ k. same_ticket (at_map ended idle refl l k); less = λ k. omega (arith, same_left (at_map ended idle refl l k)) }

-- an order of two stations with rank 0
block : ℕ → ℕ → ℕ → Block
block due_in first second = record { due_in = due_in; ranks = 0 ∷ 0 ∷ []; costs = first ∷ second ∷ [] }

-- a cost in range
abbrev InRange : ℕ → Type 0
InRange c = (1 ≤ c) × (c ≤ max_cost)

-- the history after two acceptances, after a tick, after a tick with early ends, and at the end
h₀ : History
h₀ = accept_in (block 20 1 2) (accept_in (block 9 2 3) (begun 2))

h₁ : History
h₁ = pass_in (map one_less (starts_in h₀).services) (starts_in h₀)

h₂ : History
h₂ = pass_in (map ended (starts_in h₁).services) (starts_in h₁)

pub events : List Event
events =
    accepting (block 9 2 3) ∷ accepting (block 20 1 2)
    ∷ starting ∷ passing (map one_less (starts_in h₀).services)
    ∷ starting ∷ passing (map ended (starts_in h₁).services)
    ∷ accepting (block 100 1 1) ∷ starting
    ∷ []

first_may : MayAccept (begun 2) (block 9 2 3)
unfolding read_row pass_in ended block h₀ h₁ h₂
first_may = record { costs = of_two InRange 2 3 (omega arith) (omega arith); arrival_on_time = refl; live_on_time = refl }

second_may : MayAccept (accept_in (block 9 2 3) (begun 2)) (block 20 1 2)
unfolding read_row pass_in ended block h₀ h₁ h₂
second_may = record { costs = of_two InRange 1 2 (omega arith) (omega arith); arrival_on_time = refl; live_on_time = refl }

third_may : MayAccept h₂ (block 100 1 1)
unfolding read_row pass_in ended block h₀ h₁ h₂
third_may = record { costs = of_two InRange 1 1 (omega arith) (omega arith); arrival_on_time = refl; live_on_time = refl }

kept₀ : Kept h₀
unfolding h₀
kept₀ = kept_accept (block 20 1 2) (accept_in (block 9 2 3) (begun 2)) (kept_accept (block 9 2 3) (begun 2) (kept_begun 2 (omega arith) (omega arith)) first_may) second_may

pass₀ : MayPass (starts_in h₀) (map one_less (starts_in h₀).services)
pass₀ = may_pass h₀ kept₀ (map one_less (starts_in h₀).services) (ticked_plain (starts_in h₀).services)

kept₁ : Kept h₁
unfolding h₁
kept₁ = kept_pass (map one_less (starts_in h₀).services) (starts_in h₀) (kept_starts h₀ kept₀) pass₀

pass₁ : MayPass (starts_in h₁) (map ended (starts_in h₁).services)
pass₁ = may_pass h₁ kept₁ (map ended (starts_in h₁).services) (ticked_ended (starts_in h₁).services)

pub allowed : Reached 2 events
unfolding events h₀ h₁ h₂
allowed = record { low = omega arith; high = omega arith; allowed = (first_may, (second_may, (tt, (pass₀, (tt, (pass₁, (third_may, (tt, tt)))))))) }

-- three orders, none out yet: the first is at station 2 after its early end, and each is in time by the theorem
pub stations : map (λ (e : Entry). e.station) (reached 2 events).orders ≡ 2 ∷ 1 ∷ 1 ∷ []
unfolding read_row pass_in ended block h₀ h₁ h₂ events
stations = refl

pub bounds : map (entry_bound (reached 2 events)) (reached 2 events).orders ≡ 8 ∷ 8 ∷ 10 ∷ []
unfolding read_row pass_in ended block h₀ h₁ h₂ events
bounds = refl

pub in_time : (e : Entry) → e ∈ (reached 2 events).orders → InTime (reached 2 events) e
in_time = due_times_hold 2 events allowed
