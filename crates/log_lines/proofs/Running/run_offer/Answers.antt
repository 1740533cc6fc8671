-- `run_offer` makes the call and compares; no tick passes.
use mathlib.Core.Path.{refl}
use borrow.Author.Rules.{rules}
use Rattle.model.specs.Calls.{perform}
use Rattle.log_model.specs.Lines.{offered}
use Rattle.log_model.specs.Reading.{after_line}
use Rattle.log_lines.proofs.calls.CallLaws.{offered_call, call_compared}
use Rattle.log_lines.proofs.Running.run_offer.Goals as goal

pub returns : goal.returns
unfolding perform after_line
returns c =
    let a = c.args in
    let o = a.order in
    let call = offered_call o a.number a.ticket (search rules) (search rules) in
    let given = rw c.order_block-block.ensures at c.dispatcher_offer-given.ensures in
    call_compared (offered o.due_in o.ranks o.costs a.number a.ticket) call given c.u32_at-got.ensures refl (record { same = refl; is = refl }) c.compared_by.ensures refl
