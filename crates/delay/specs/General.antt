-- The delay theorem in its general form: for any test `favoured` that the choice at a station prefers, and any figure and maxima that follow the orders, the bound is kept
-- by acceptances, starts and ticks with early ends, and while it is kept a favoured live order is in time.
use Rattle.std.specs.Prelude.{◌≡◌, Bool, true, false, List, map, ℕ, ◌+◌, ◌≤◌, ◌<◌}
use Rattle.model.specs.declared.Order.{Order}
use Rattle.model.specs.declared.Service.{Service}
use Rattle.model.specs.Lists.{at, total}
use Rattle.model.specs.State.{State}
use Rattle.model.specs.Tick.{move_to, starts}
use Rattle.model.specs.declared.Block.{Block}
use Rattle.model.specs.Admission.{arrival, joined_by}
use Rattle.schedule.specs.Valid.{◌∈◌, cost, Valid, Ready}
use Rattle.schedule.specs.Starts.{Started}
use Rattle.schedule.specs.Pass.{Ticked, pass_to}
use Rattle.schedule.specs.Accept.{Acceptable, NextAfter, accept_next}
use Rattle.delay.specs.Bound.{up_to, both, weight, Bounded}

-- The choice prefers favoured orders: where one starts that is not favoured, no favoured one is there.
abbrev pub Prefers : (Order → Bool) → Type 0
Prefers favoured = (s : State) → Valid s → (k : ℕ) (o : Order) → Started s k o → favoured o ≡ false → (p : Order) → p ∈ s.orders → favoured p ≡ true → p.station ≡ k → ⊥

-- The test, the figure and the maxima stay with an order as it moves on.
pub record Steady (favoured : Order → Bool) (figure : Order → ℕ) (M K : Order → ℕ → ℕ) : Type 0 where
  pub favoured_stays : (k : ℕ) (o : Order) → favoured (move_to k o) ≡ favoured o
  pub figure_stays : (k : ℕ) (o : Order) → figure (move_to k o) ≡ figure o
  pub m_stays : (k : ℕ) (o : Order) → M (move_to k o) ≡ M o
  pub k_stays : (k : ℕ) (o : Order) → K (move_to k o) ≡ K o

-- With an arrival, the figure of a live order grows by the arrival's work, and its maxima cover the arrival's costs; the arrival's own figure holds all the work
-- there is, and its maxima cover all the costs.
pub record Grows (favoured : Order → Bool) (figure : Order → ℕ) (M K : Order → ℕ → ℕ) (s : State) (b : Block) : Type 0 where
  pub favoured_stays : (o : Order) → favoured (joined_by b o) ≡ favoured o
  pub figure_grows : (o : Order) → o ∈ s.orders → favoured o ≡ true → figure o + weight favoured (arrival s b) ≤ figure (joined_by b o)
  pub m_grows : (o : Order) (k : ℕ) → M o k ≤ M (joined_by b o) k
  pub k_grows : (o : Order) (k : ℕ) → K o k ≤ K (joined_by b o) k
  pub m_covers : favoured (arrival s b) ≡ true → (o : Order) → favoured o ≡ true → (k : ℕ) → at 0 b.costs k ≤ M (joined_by b o) k
  pub k_covers : favoured (arrival s b) ≡ false → (o : Order) → favoured o ≡ true → (k : ℕ) → at 0 b.costs k ≤ K (joined_by b o) k
  pub own_figure : favoured (arrival s b) ≡ true → s.clock + (total (map (weight favoured) s.orders) + weight favoured (arrival s b)) ≤ figure (arrival s b)
  pub own_m : favoured (arrival s b) ≡ true → (k : ℕ) → (at 0 b.costs k ≤ M (arrival s b) k) × ((o : Order) → o ∈ s.orders → favoured o ≡ true → cost o k ≤ M (arrival s b) k)
  pub own_k : favoured (arrival s b) ≡ true → (k : ℕ) (o : Order) → o ∈ s.orders → favoured o ≡ false → cost o k ≤ K (arrival s b) k

pub record GeneralBound (favoured : Order → Bool) (figure : Order → ℕ) (M K : Order → ℕ → ℕ) : Type 0 where
  pub acceptances : (next : ℕ) (s : State) (b : Block) → Acceptable s b → NextAfter s next → Grows favoured figure M K s b → Bounded favoured figure M K s → Bounded favoured figure M K (accept_next next s b)
  pub starting : Prefers favoured → (s : State) → Bounded favoured figure M K s → Bounded favoured figure M K (starts s)
  pub ticks : Steady favoured figure M K → (ticked : List Service) (s : State) → Ticked s.services ticked → Ready s → Bounded favoured figure M K s → Bounded favoured figure M K (pass_to ticked s)
  pub in_time : (s : State) → Bounded favoured figure M K s → (t : Order) → t ∈ s.orders → favoured t ≡ true → s.clock < figure t + up_to (both (M t) (K t)) s.n + K t s.n

abbrev pub DelayTheorem : Type 0
DelayTheorem = (favoured : Order → Bool) (figure : Order → ℕ) (M K : Order → ℕ → ℕ) → GeneralBound favoured figure M K
