-- What is asked of an acceptance, beside the delay bounds: a ticket is left (question 9), and no cost at stations 1 to N is 0 (part of question 6).
use Rattle.std.specs.Prelude.{◌≡◌, ◌⊎◌, [], ◌∷◌, ◌++◌, ℕ, ◌≤◌, ◌<◌}
use Rattle.model.specs.Lists.{at}
use Rattle.model.specs.State.{State}
use Rattle.model.specs.declared.Block.{Block}
use Rattle.model.specs.Admission.{arrival, joined_live}

pub record Acceptable (s : State) (b : Block) : Type 0 where
  pub stations : 1 ≤ s.n
  pub ticket : 1 ≤ s.next
  pub costs : (k : ℕ) → 1 ≤ k → k ≤ s.n → 1 ≤ at 0 b.costs k

-- The next ticket after an acceptance: none is left, or it is larger.
abbrev pub NextAfter : State → ℕ → Type 0
NextAfter s next = (next ≡ 0) ⊎ (s.next < next)

-- The arrival accepted, with any next ticket after it: `accept` is this with the ticket that document 01 gives.
unfoldable pub accept_next : ℕ → State → Block → State
accept_next next s b = record { n = s.n; clock = s.clock; next = next; services = s.services; orders = joined_live s b ++ (arrival s b ∷ []) }
