-- The block of an order by format as code has it, with costs of two bytes each.
use Rattle.std.specs.Prelude.{cond, ℕ, ltb}
use Rattle.model.specs.declared.Block.{Block}
use Rattle.model.specs.Formats.{FormatOrder, format_cost, up_to_station}
use Rattle.admission.specs.declared.formats.FormatOrder.{FormatOrder as Lent}

-- A cost that no two bytes hold stands as the largest number that they hold, which is out of range as well: question 6 says "no" to both.
abbrev pub held_cost : ℕ → ℕ
held_cost cost = cond (ltb cost 65536) cost 65535

unfoldable pub held_block : ℕ → FormatOrder → Block
held_block n f = record { due_in = f.due_in; ranks = up_to_station n (λ station. f.rank); costs = up_to_station n (λ station. held_cost (format_cost f station)) }

-- What the code's order by format says.
abbrev pub said : Lent → FormatOrder
said f = record { format = f.format; due_in = f.due_in; rank = f.rank; sheet = f.sheet.now }
