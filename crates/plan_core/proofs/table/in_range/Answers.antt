-- The three parts of question 18; a record has costs enough for every station.
use mathlib.Core.Path.{◌≡◌, sym, ◌∙◌}
use mathlib.Core.Bool.{Bool, true, false, ◌&&◌}
use Prim.Native.Nat.{ℕ}
use native.Mathlib.Omega.{arith}
use lib.ListN.{length, take}
use lib.Seq.{length-take-le}
use lib.Dec.{eqb}
use borrow.Author.Tests.{eq-eqb}
use borrow.Author.Rules.{rules}
use Rattle.std.proofs.Common.{tests}
use Rattle.model.specs.Lists.{within}
use Rattle.plan_model.specs.Limits.{max_period}
use Rattle.plan_model.specs.Plan.{in_range}
use Rattle.plan_core.proofs.table.in_range.Goals as goal
use Rattle.plan_core.proofs.table.in_range.Goals.{then-contains, else-contains}

pub returns-then-contains-2 : goal.returns-then-contains-2
unfolding in_range
returns-then-contains-2 c =
    let x = c.args.x.now in
    let eight : length x.costs ≡ 8 = search rules in
    let period : c.contains.result ≡ within 1 max_period x.period = search (rules, tests) in
    let enough : eqb (length (take c.args.stations x.costs)) c.args.stations ≡ true = eq-eqb _ _ (length-take-le c.args.stations x.costs (omega arith)) in
    let both : (within 1 max_period x.period && within 1 x.period x.deadline) ≡ true = elim c.if-contains.branch [
      | then-contains w ↦ let deadline : w.contains-then-contains.result ≡ within 1 x.period x.deadline = search (rules, tests) in
          rw (sym period ∙ w.if-contains.true, sym deadline ∙ sym w.value-is ∙ c.if-contains-2.true)
      | else-contains w ↦ cc
    ] in
    rw (both, enough, c.costs_in_range.ensures)

pub returns-else-contains-2 : goal.returns-else-contains-2
unfolding in_range
returns-else-contains-2 c =
    let x = c.args.x.now in
    let period : c.contains.result ≡ within 1 max_period x.period = search (rules, tests) in
    let neither : (within 1 max_period x.period && within 1 x.period x.deadline) ≡ false = elim c.if-contains.branch [
      | then-contains w ↦ let deadline : w.contains-then-contains.result ≡ within 1 x.period x.deadline = search (rules, tests) in
          rw (sym period ∙ w.if-contains.true, sym deadline ∙ sym w.value-is ∙ c.if-contains-2.false)
      | else-contains w ↦ rw (sym period ∙ w.if-contains.false)
    ] in
    rw (neither, c.if-contains-2.false)
