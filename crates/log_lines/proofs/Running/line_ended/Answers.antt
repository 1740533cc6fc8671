-- `line_ended` by its two tests: whether anything is left to find, and whether the line is the first.
use mathlib.Core.Path.{refl, sym}
use Rattle.log_lines.specs.Running.{ran_of}
use Rattle.log_lines.proofs.lines.EndLaws.{nothing_left, first_ended, later_ended, few_stations}
use Rattle.log_lines.proofs.Running.line_ended.Goals as goal

pub returns-then-settled : goal.returns-then-settled
returns-then-settled c = record { same = refl; is = nothing_left (ran_of c.args.self.now) c.args.line.now (sym c.if-settled.ensures) }

pub returns-then-self-eq1 : goal.returns-then-self-eq1
returns-then-self-eq1 c = rw (← first_ended (ran_of c.args.self.now) c.args.line.now (sym c.if-settled.ensures) c.if-self-eq1.true) c.first_line.ensures

pub call_line-requires : goal.call_line-requires
call_line-requires c = few_stations (ran_of c.args.self.now) c.args.line.now (sym c.if-settled.ensures)

pub returns : goal.returns
returns c = rw (← later_ended (ran_of c.args.self.now) c.args.line.now (sym c.if-settled.ensures) c.if-self-eq1.false) c.call_line.ensures
