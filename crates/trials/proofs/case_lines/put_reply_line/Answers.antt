-- Four printers, one after the other, in a buffer that has room for all of them.
use Rattle.std.proofs.Common.{length, ap, arith}
use Rattle.text.proofs.Printing.{◌then◌, at_front}
use Rattle.trials.specs.CaseLines.{reply_line}
use Rattle.trials.proofs.case_lines.Room.{figures_room, margin_room}
use Rattle.trials.proofs.case_lines.put_reply_line.Goals as goal

pub put_figures-requires : goal.put_figures-requires
put_figures-requires c =
    omega (arith, ap length c.new-text.ensures.bytes, figures_room c.u32_at-number.result c.u32_at-ticket.result c.u32_at-tick.result (omega arith) (omega arith) (omega arith))

pub put_margin-requires : goal.put_margin-requires
put_margin-requires c =
    omega (arith, ap length c.new-text.ensures.bytes, figures_room c.u32_at-number.result c.u32_at-ticket.result c.u32_at-tick.result (omega arith) (omega arith) (omega arith), margin_room c.u32_at-margin.result (omega arith))

pub byte-requires : goal.byte-requires
byte-requires c =
    omega (arith, ap length c.new-text.ensures.bytes, figures_room c.u32_at-number.result c.u32_at-ticket.result c.u32_at-tick.result (omega arith) (omega arith) (omega arith), margin_room c.u32_at-margin.result (omega arith))

pub returns-clause-put : goal.returns-clause-put
unfolding reply_line
returns-clause-put c =
    let whole = c.bytes.ensures then c.put_figures.ensures then c.put_margin.ensures then c.byte.ensures in
    let front = at_front c.new-text.ensures.start c.new-text.ensures.bytes whole in
    rw (c.u32_at-number.ensures, c.u32_at-ticket.ensures, c.u32_at-tick.ensures, c.u32_at-margin.ensures) at front
