-- `call_line` by whether a call was read, and whether an earlier line disagreed.
use mathlib.Core.Path.{sym}
use Rattle.log_lines.specs.Running.{ran_of}
use Rattle.log_lines.proofs.lines.EndLaws.{call_refused, call_passed, call_made}
use Rattle.log_lines.proofs.Running.call_line.Goals as goal

pub returns-in_default : goal.returns-in_default
returns-in_default c = rw (← call_refused (ran_of c.args.self.now) c.args.line.now (sym c.in_default.ensures)) c.refused_here.ensures

pub returns-then-self-ne0 : goal.returns-then-self-ne0
returns-then-self-ne0 c = rw (← call_passed (ran_of c.args.self.now) c.args.line.now (sym c.in-Some.ensures) c.if-self-ne0.true) c.passed_by.ensures

pub returns : goal.returns
returns c = rw (← call_made (ran_of c.args.self.now) c.args.line.now (sym c.in-Some.ensures) c.if-self-ne0.false) c.run.ensures
