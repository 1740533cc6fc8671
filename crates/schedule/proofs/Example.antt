-- The premises of `ServedInFull` and `ReachedValid` can be met: two orders, the second accepted after an advance. (`read_row` names all that the calls compute with.)
use mathlib.Core.Path.{◌≡◌, refl}
use mathlib.Core.List.{List, [], ◌∷◌, map}
use Prim.Native.Nat.{ℕ, zero, suc, ◌≤◌}
use native.Mathlib.Omega.{arith}
use Rattle.model.specs.declared.Service.{Service}
use Rattle.model.specs.Lists.{at}
use Rattle.model.specs.State.{idle, fresh}
use Rattle.model.specs.declared.Block.{Block}
use Rattle.model.specs.Admission.{accept}
use Rattle.model.specs.Table.{read_row}
use Rattle.schedule.specs.Valid.{Valid}
use Rattle.schedule.specs.Accept.{Acceptable}
use Rattle.schedule.specs.Course.{Step, accepting, advancing, after, AllAcceptable, during_ticks, Course}
use Rattle.schedule.proofs.Course.{reached_valid, valid_fresh, served_in_full}

-- an order of two stations
block : ℕ → ℕ → ℕ → Block
block rank first second = record { due_in = 100; ranks = rank ∷ rank ∷ []; costs = first ∷ second ∷ [] }

-- what holds of two numbers holds of the entries of stations 1 and 2
pub of_two : (P : ℕ → Type 0) (a b : ℕ) → P a → P b → (k : ℕ) → 1 ≤ k → k ≤ 2 → P (at 0 (a ∷ b ∷ []) k)
of_two P a b p q zero low high = absurd (omega arith)
of_two P a b p q (suc zero) low high = p
of_two P a b p q (suc (suc zero)) low high = q
of_two P a b p q (suc (suc (suc k))) low high = absurd (omega arith)

later : List Step
later = advancing ∷ accepting (block 0 1 2) ∷ advancing ∷ advancing ∷ advancing ∷ advancing ∷ advancing ∷ advancing ∷ []

first_acceptable : Acceptable (fresh 2) (block 5 2 3)
unfolding read_row block later
first_acceptable = record { stations = omega arith; ticket = omega arith; costs = of_two (λ c. 1 ≤ c) 2 3 (omega arith) (omega arith) }

later_acceptable : AllAcceptable (accept (fresh 2) (block 5 2 3)) later
unfolding read_row block later
later_acceptable = (record { stations = omega arith; ticket = omega arith; costs = of_two (λ c. 1 ≤ c) 1 2 (omega arith) (omega arith) }, tt)

valid : Valid (after (fresh 2) (accepting (block 5 2 3) ∷ later))
valid = reached_valid 2 (omega arith) (accepting (block 5 2 3) ∷ later) (first_acceptable, later_acceptable)

course : Course 2 1 (2 ∷ 3 ∷ []) 1 0 (during_ticks (accept (fresh 2) (block 5 2 3)) later)
unfolding fresh block
course = served_in_full (fresh 2) (valid_fresh 2 (omega arith)) (block 5 2 3) first_acceptable later later_acceptable

-- the tickets in service at stations 1 and 2 in each tick: the second order has the better rank, and waits for the first all the same
tickets : List Service → List ℕ
tickets entries = (at idle entries 1).ticket ∷ (at idle entries 2).ticket ∷ []

ticks : map tickets (during_ticks (accept (fresh 2) (block 5 2 3)) later) ≡ (1 ∷ 0 ∷ []) ∷ (1 ∷ 0 ∷ []) ∷ (2 ∷ 1 ∷ []) ∷ (0 ∷ 1 ∷ []) ∷ (0 ∷ 1 ∷ []) ∷ (0 ∷ 2 ∷ []) ∷ (0 ∷ 2 ∷ []) ∷ []
unfolding read_row tickets block later
ticks = refl
