-- Progress: where the firmware goes on calling advance, each live order comes out. Demand 3 alone is also met where nobody advances.
use Rattle.std.specs.Prelude.{◌≡◌, List, [], ◌∷◌, map, ℕ, ◌+◌, ◌≤◌, length}
use Rattle.std.proofs.Math.Option.{none, some}
use Rattle.model.specs.Limits.{max_stations}
use Rattle.model.specs.Layout.{image_size, reply_size}
use Rattle.model.specs.Calls.{advancing}
use Rattle.model.specs.History.{Entry, entry_due}
use Rattle.model.specs.Runs.{Lent, Run, started, outcome, after_call, after_all, AllAllowed}
use Rattle.schedule.specs.Valid.{◌∈◌}

-- Advances, by the reply buffers that are lent to them.
abbrev pub advances : List (List ℕ) → List Lent
advances replies = map (λ reply. record { call = advancing; reply = reply }) replies

abbrev pub AllWhole : List (List ℕ) → Type 0
AllWhole replies = (reply : List ℕ) → reply ∈ replies → length reply ≡ reply_size

-- Each call of a list returns 0.
abbrev pub AllDone : Run → List Lent → Type 0
AllDone run [] = Unit {0}
AllDone run (lent ∷ later) = ((outcome run lent).number ≡ 0) × AllDone (after_call run lent) later

-- An order is out in a history that a run comes to, by its due tick.
pub record Out (run : Run) (order : Entry) : Type 0 where
  pub later : Entry
  pub there : later ∈ run.history.orders
  pub named : later.ticket ≡ order.ticket
  pub tick : ℕ
  pub is_out : later.out ≡ some tick
  pub by_due : tick ≤ entry_due order

pub record Progressed (run : Run) (order : Entry) (replies : List (List ℕ)) : Type 0 where
  pub all_done : AllDone run (advances replies)
  pub out : Out (after_all run (advances replies)) order

-- From the end of any list of calls as demand 3 has them: due tick minus clock advances, with replies of their length, are all done and bring a live order out.
abbrev pub Progress : Type 0
Progress =
    (n : ℕ) → 1 ≤ n → n ≤ max_stations
    → (image : List ℕ) → length image ≡ image_size
    → (reply : List ℕ) → length reply ≡ reply_size
    → (calls : List Lent) → AllAllowed (started image n reply) calls
    → let run = after_all (started image n reply) calls in
    (order : Entry) → order ∈ run.history.orders → order.out ≡ none
    → (replies : List (List ℕ)) → AllWhole replies → run.history.clock + length replies ≡ entry_due order
    → Progressed run order replies
