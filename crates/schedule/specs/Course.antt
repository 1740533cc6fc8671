-- The way of one order through the stations, over any list of acceptances and advances: exactly its cost in consecutive ticks at each station, at
-- stations 1, 2, .. N in that order, and at no two stations at once.
use Rattle.std.specs.Prelude.{◌≡◌, ◌≢◌, List, [], ◌∷◌, ℕ, suc, ◌≤◌, ◌<◌}
use Rattle.model.specs.declared.Service.{Service}
use Rattle.model.specs.Lists.{at}
use Rattle.model.specs.Limits.{max_stations}
use Rattle.model.specs.State.{State, idle, fresh}
use Rattle.model.specs.declared.Block.{Block}
use Rattle.model.specs.Admission.{accept}
use Rattle.model.specs.Tick.{starts, advance}
use Rattle.schedule.specs.Valid.{Valid}
use Rattle.schedule.specs.Accept.{Acceptable}

-- What changes a state.
pub data Step : Type 0 where
  accepting : Block → Step
  advancing : Step

abbrev pub after : State → List Step → State
after s [] = s
after s (accepting b ∷ steps) = after (accept s b) steps
after s (advancing ∷ steps) = after (advance s) steps

abbrev pub AllAcceptable : State → List Step → Type 0
AllAcceptable s [] = Unit {0}
AllAcceptable s (accepting b ∷ steps) = Acceptable s b × AllAcceptable (accept s b) steps
AllAcceptable s (advancing ∷ steps) = AllAcceptable (advance s) steps

-- Every state that such steps lead to from a fresh one is valid, so that what is said of valid states is said of every run.
abbrev pub ReachedValid : Type 0
ReachedValid = (n : ℕ) → n ≤ max_stations → (steps : List Step) → AllAcceptable (fresh n) steps → Valid (after (fresh n) steps)

-- The entries of the stations during each tick in turn: as the starts leave them.
abbrev pub during_ticks : State → List Step → List (List Service)
during_ticks s [] = []
during_ticks s (accepting b ∷ steps) = during_ticks (accept s b) steps
during_ticks s (advancing ∷ steps) = (starts s).services ∷ during_ticks (advance s) steps

-- During a tick the order with ticket t is in service nowhere; at station k and nowhere else.
abbrev pub Nowhere : ℕ → List Service → Type 0
Nowhere t entries = (j : ℕ) → (at idle entries j).ticket ≢ t

pub record OnlyAt (t k : ℕ) (entries : List Service) : Type 0 where
  pub there : (at idle entries k).ticket ≡ t
  pub nowhere_else : (j : ℕ) → j ≢ k → (at idle entries j).ticket ≢ t

-- The course of the order with ticket t from here on, tick by tick, where it is at station k with so many ticks to go (0: not in service).
pub data Course (n t : ℕ) (costs : List ℕ) : ℕ → ℕ → List (List Service) → Type 0 where
  stops : {k left : ℕ} → Course n t costs k left []
  waits : {k : ℕ} {entries : List Service} {later : List (List Service)} → k ≤ n → Nowhere t entries → Course n t costs k 0 later → Course n t costs k 0 (entries ∷ later)
  begins : {k : ℕ} {entries : List Service} {later : List (List Service)} → k ≤ n → 1 ≤ at 0 costs k → Course n t costs k (at 0 costs k) (entries ∷ later) → Course n t costs k 0 (entries ∷ later)
  works : {k left : ℕ} {entries : List Service} {later : List (List Service)} → OnlyAt t k entries → Course n t costs k (suc left) later → Course n t costs k (suc (suc left)) (entries ∷ later)
  leaves : {k : ℕ} {entries : List Service} {later : List (List Service)} → OnlyAt t k entries → Course n t costs (suc k) 0 later → Course n t costs k 1 (entries ∷ later)
  is_out : {k : ℕ} {entries : List Service} {later : List (List Service)} → n < k → Nowhere t entries → Course n t costs k 0 later → Course n t costs k 0 (entries ∷ later)

-- Every order that is accepted in a valid state has such a course from station 1 on, whatever comes after.
abbrev pub ServedInFull : Type 0
ServedInFull = (s : State) → Valid s → (b : Block) → Acceptable s b → (steps : List Step) → AllAcceptable (accept s b) steps → Course s.n s.next b.costs 1 0 (during_ticks (accept s b) steps)
