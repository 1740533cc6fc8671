-- The code's `Pipeline` and the definitions' `State` say the same: one has room for 32 records, the other lists the live ones.
use Rattle.std.specs.Prelude.{List, [], ◌∷◌, ◌++◌, ℕ, ◌-◌, length, take, replicate}
use Rattle.model.specs.declared.Order.{Order}
use Rattle.model.specs.Limits.{max_live}
use Rattle.model.specs.State.{State}
use Rattle.image.specs.declared.pipeline.Pipeline.{Pipeline}

-- "the rest all zero"
abbrev pub eight_zeros : List ℕ
eight_zeros = 0 ∷ 0 ∷ 0 ∷ 0 ∷ 0 ∷ 0 ∷ 0 ∷ 0 ∷ []

abbrev pub unused : Order
unused = record { ticket = 0; accepted = 0; due = 0; sum = 0; station = 0; ranks = eight_zeros; costs = eight_zeros; maxima = eight_zeros }

-- The live orders, and unused records up to 32.
unfoldable pub padded : State → Pipeline
padded s =
    record {
      n = s.n;
      live = length s.orders;
      clock = s.clock;
      next = s.next;
      services = s.services;
      orders = s.orders ++ replicate (max_live - length s.orders) unused;
    }

-- The records in use.
unfoldable pub listed : Pipeline → State
listed p = record { n = p.n; clock = p.clock; next = p.next; services = p.services; orders = take p.live p.orders }
