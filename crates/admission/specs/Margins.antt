-- When a margin can be had from 32 bits, and what the live orders come to with an arrival.
use Rattle.std.specs.Prelude.{◌≡◌, List, ◌∷◌, map, ℕ, ◌+◌, ◌<◌, ◌≤◌, pos}
use Rattle.model.specs.declared.Block.{Block}
use Rattle.model.specs.declared.Order.{Order}
use Rattle.model.specs.DelayBound.{sum_of, maxima_of, bound_tick, margin}
use Rattle.model.specs.Admission.{joined_by, smallest}
use Rattle.admission.specs.declared.margins.Tried.{Tried}

-- Ticks are natural numbers of 32 bits, and margins signed ones.
pub record MarginFits (n : ℕ) (o : Order) : Type 0 where
  pub tick : bound_tick n o < 4294967296
  pub above : o.due < bound_tick n o + 2147483648
  pub below : bound_tick n o ≤ o.due + 2147483648

-- A live order that can be tried with an arrival. (The code leaves its loop at a ticket of 0, which no live order has.)
pub record Tryable (n : ℕ) (b : Block) (o : Order) : Type 0 where
  pub named : 1 ≤ o.ticket
  pub fits : MarginFits n (joined_by b o)

-- An arrival's interference set is itself and the live orders, by their own costs. Their margins are those with the arrival in their sets, and no margin is above 2,147,483,647, the largest signed number of 32 bits.
pub record Tries (n : ℕ) (b : Block) (orders : List Order) (t : Tried) : Type 0 where
  pub sum_is : t.sum ≡ sum_of (b.costs ∷ map (λ (o : Order). o.costs) orders)
  pub maxima_is : t.maxima ≡ maxima_of (b.costs ∷ map (λ (o : Order). o.costs) orders)
  pub least_is : t.least ≡ smallest (pos 2147483647) (map (margin n) (map (joined_by b) orders))
