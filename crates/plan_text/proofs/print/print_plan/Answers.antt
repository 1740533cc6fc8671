-- Each way out prints what its number asks for, and the buffer has room for it.
use mathlib.Core.Path.{◌≡◌}
use native.Mathlib.Omega.{arith}
use borrow.Author.Rules.{rules}
use lib.ListN.{length}
use Rattle.plan_text.proofs.print.Laws.{table_is, refusal_is}
use Rattle.plan_text.proofs.print.print_plan.Goals as goal
use Rattle.plan_text.proofs.print.print_plan.Goals.{in-Ok, in-Err}

pub shared_ref_as_front-put_table : goal.shared_ref_as_front-put_table
shared_ref_as_front-put_table c = (table_is c.args.input.now c.in-Ok.set c.in-Ok.ensures).2

pub put_table-requires : goal.put_table-requires
put_table-requires c =
    let long : length c.args.out.now ≡ 1024 = search rules in
    rw (c.new-text.ensures.start, c.new-text.ensures.bytes) (omega (arith, (table_is c.args.input.now c.in-Ok.set c.in-Ok.ensures).1))

pub put_refusal-requires : goal.put_refusal-requires
put_refusal-requires c =
    let long : length c.args.out.now ≡ 1024 = search rules in
    rw (c.new-text.ensures.start, c.new-text.ensures.bytes) (omega (arith, (refusal_is c.args.input.now c.in-Err.number c.in-Err.ensures).1))

pub returns-clause-put : goal.returns-clause-put
returns-clause-put c =
    let text = c.new-text.ensures in
    elim c.match-planned.branch [
      | in-Ok w ↦ rw (w.text-is, (table_is c.args.input.now w.in-Ok.set w.in-Ok.ensures).0) (rw (text.start, text.bytes) at w.put_table.ensures.put)
      | in-Err w ↦ rw (w.text-is, (refusal_is c.args.input.now w.in-Err.number w.in-Err.ensures).0) (rw (text.start, text.bytes) at w.put_refusal.ensures.put)
    ]
