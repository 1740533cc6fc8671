-- The arrival as code puts it together.
use Rattle.std.specs.Prelude.{List, ℕ}
use Rattle.model.specs.declared.Block.{Block}
use Rattle.model.specs.declared.Order.{Order}
use Rattle.model.specs.Admission.{due_of}

-- The arrival's record, by its ticket, the clock and its interference set: `arrival` of the state that has them.
unfoldable pub arrival_with : ℕ → ℕ → Block → ℕ → List ℕ → Order
arrival_with ticket clock b sum maxima = record { ticket = ticket; accepted = clock; due = due_of clock b; sum = sum; station = 1; ranks = b.ranks; costs = b.costs; maxima = maxima }
