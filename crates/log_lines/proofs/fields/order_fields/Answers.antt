-- `order_fields` writes over a row of the largest values.
use mathlib.Core.Path.{◌≡◌}
use Prim.Native.Nat.{◌+◌, ◌*◌, ◌-◌}
use native.Mathlib.Omega.{arith}
use borrow.Author.Rules.{rules}
use Rattle.log_lines.proofs.fields.OrderLaws.{order_mosts}
use Rattle.log_lines.proofs.fields.order_fields.Goals as goal

pub returns : goal.returns
returns c =
    let n = c.args.n in
    let ranks : n + 1 - 1 ≡ n = omega arith in
    let costs : 2 * n + 1 - (n + 1) ≡ n = omega arith in
    order_mosts n (omega arith) {ranks = c.fill.new.self} {costs = c.fill-2.new.self} (search rules) (search rules) _ _ ranks costs
