-- The order that a line's values say, and what the code that makes it relies on.
use Rattle.std.specs.Prelude.{List, ℕ, ◌+◌, ◌≤◌, ◌<◌, get_or}
use Rattle.model.specs.declared.Block.{Block}
use Rattle.model.specs.Limits.{max_stations}
use Rattle.model.specs.Lists.{part}
use Rattle.log_model.specs.Limits.{most8, most16}
use Rattle.log_model.specs.Lines.{to_eight}

-- The values of an order of n stations: a rank has 8 bits and a cost 16.
pub record OrderFits (n : ℕ) (values : List ℕ) : Type 0 where
  pub stations : n ≤ max_stations
  pub ranks : (i : ℕ) → i < n → get_or values (1 + i) 0 ≤ most8
  pub costs : (i : ℕ) → i < n → get_or values (1 + n + i) 0 ≤ most16

-- The order.
abbrev pub order_of : ℕ → List ℕ → Block
order_of n values = record { due_in = get_or values 0 0; ranks = to_eight (part values 1 n); costs = to_eight (part values (1 + n) n) }

-- An order of eight stations has a due-in, eight ranks, eight costs, a number and a ticket.
abbrev pub max_fields : ℕ
max_fields = 19
