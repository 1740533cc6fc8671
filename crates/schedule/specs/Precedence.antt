-- Who goes before whom at a station (document 02, (v)): a strict total order on orders with different tickets, so that of orders that wait at a station one goes
-- before all others. The choice there takes nothing else from `precedes`, and what is proved of delays nothing else from the choice.
use Rattle.std.specs.Prelude.{◌≡◌, ◌⊎◌, ◌≢◌, true, false, ℕ}
use Rattle.model.specs.Tick.{View, precedes}

pub record StrictTotalOrder (k : ℕ) : Type 0 where
  pub irreflexive : (a : View) → precedes k a a ≡ false
  pub transitive : (a b c : View) → precedes k a b ≡ true → precedes k b c ≡ true → precedes k a c ≡ true
  pub total : (a b : View) → a.ticket ≢ b.ticket → (precedes k a b ≡ true) ⊎ (precedes k b a ≡ true)

-- So at every station.
abbrev pub PrecedesInOrder : Type 0
PrecedesInOrder = (k : ℕ) → StrictTotalOrder k
