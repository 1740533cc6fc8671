-- `run_advance` makes the call and compares; a tick passes where it is done.
use mathlib.Core.Path.{refl}
use borrow.Author.Tests.{eq-eqb, ne_eqb}
use Rattle.model.specs.Image.{decode}
use Rattle.model.specs.Calls.{perform}
use Rattle.log_model.specs.Lines.{advanced, call_of}
use Rattle.log_model.specs.Reading.{occupied}
use Rattle.log_lines.proofs.calls.CallLaws.{declined_passes, done_passes, call_compared}
use Rattle.log_lines.proofs.Running.run_advance.Goals as goal

pub returns-then-number-ne0 : goal.returns-then-number-ne0
unfolding call_of perform
returns-then-number-ne0 c =
    let ticket = c.args.ticket in
    let number = c.dispatcher_advance-number.result in
    let passed = declined_passes ticket number (occupied (decode c.args.self.now.image.now).orders) c.args.self.now.rerun c.if-number-ne0.true in
    call_compared (advanced ticket) refl c.dispatcher_advance-number.ensures c.u32_at-out.ensures passed (record { same = refl; is = refl }) c.compared_by.ensures
    (rw (ne_eqb number 0 c.if-number-ne0.true))

pub returns : goal.returns
unfolding call_of perform
returns c =
    let ticket = c.args.ticket in
    let number = c.dispatcher_advance-number.result in
    let passed = done_passes ticket number (occupied (decode c.args.self.now.image.now).orders) c.args.self.now.rerun c.if-number-ne0.false in
    let p = rw c.occupied-here.ensures at c.tick_passed.ensures in
    call_compared (advanced ticket) refl c.dispatcher_advance-number.ensures c.u32_at-out.ensures passed (record { same = p.same; is = p.is }) c.compared_by-2.ensures
    (rw (eq-eqb number 0 c.if-number-ne0.false))
