-- `order_of` fills the fronts of two rows of zeros with the values of two rows.
use mathlib.Core.Path.{◌≡◌}
use mathlib.Core.List.{List, ◌++◌}
use Prim.Native.Nat.{ℕ, ◌+◌, ◌-◌}
use lib.ListN.{get_or, replicate}
use Rattle.model.specs.Limits.{max_stations}
use Rattle.model.specs.Lists.{upward}
use Rattle.log_lines.proofs.fields.OrderLaws.{from_place}
use Rattle.log_lines.proofs.fields.order_of.Given as goal

abbrev pub filled : List ℕ → ℕ → ℕ → List ℕ
filled values at i = upward 0 i (from_place values at) ++ replicate (max_stations - i) 0

abbrev pub invariant-loop-i : goal.invariant-loop-i
invariant-loop-i l = record {
  due_in : l.order.due_in ≡ get_or l.values 0 0;
  ranks : l.order.ranks ≡ filled l.values 1 l.i;
  costs : l.order.costs ≡ filled l.values (1 + l.n) l.i;
}
