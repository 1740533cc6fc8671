-- `first_line` by whether a station count was read.
use mathlib.Core.Path.{sym, ◌∙◌}
use Rattle.log_lines.specs.Running.{ran_of}
use Rattle.log_lines.proofs.lines.EndLaws.{first_refused, first_opens}
use Rattle.log_lines.proofs.Running.first_line.Goals as goal

pub returns-in_default : goal.returns-in_default
returns-in_default c = rw (← first_refused (ran_of c.args.self.now) c.args.line.now (sym c.in_default.ensures)) c.refused_here.ensures

pub returns : goal.returns
returns c =
    let p = c.opened_with.ensures in
    let opens = first_opens (ran_of c.args.self.now) c.args.line.now (sym c.in-Some.ensures) in
    record { same = p.same; is = p.is ∙ rw (← opens, c.dispatcher_open.ensures.image_is) }
