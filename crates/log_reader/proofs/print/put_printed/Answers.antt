-- Each way out prints what its tests ask for.
use mathlib.Core.Path.{◌≡◌}
use mathlib.Core.Bool.{true}
use Rattle.text.proofs.PrintedRows.{printed_none}
use Rattle.log_model.specs.Output.{refused_line}
use Rattle.log_reader.proofs.print.Cases.{prints_refused, prints_nothing, prints_unfinished, prints_result}
use Rattle.log_reader.proofs.print.put_printed.Goals as goal

pub put_numbered-requires : goal.put_numbered-requires
unfolding refused_line
put_numbered-requires c = rw (prints_refused c.args.s.now c.if-r-ne0.true) at c.requires

pub returns-then-r-ne0 : goal.returns-then-r-ne0
unfolding refused_line
returns-then-r-ne0 c = rw (prints_refused c.args.s.now c.if-r-ne0.true) c.put_numbered.ensures

pub returns-then-r-eq0 : goal.returns-then-r-eq0
returns-then-r-eq0 c = rw (prints_nothing c.args.s.now c.if-r-ne0.false c.if-r-eq0.true) (printed_none _)

pub put_numbered-requires-then-s-r : goal.put_numbered-requires-then-s-r
unfolding refused_line
put_numbered-requires-then-s-r c = rw (prints_unfinished c.args.s.now c.if-r-ne0.false c.if-r-eq0.false c.if-s-r.true) at c.requires

pub returns-then-s-r : goal.returns-then-s-r
unfolding refused_line
returns-then-s-r c = rw (prints_unfinished c.args.s.now c.if-r-ne0.false c.if-r-eq0.false c.if-s-r.true) c.put_numbered-then-s-r.ensures

pub put_result-requires : goal.put_result-requires
put_result-requires c = rw (prints_result c.args.s.now c.if-r-ne0.false c.if-r-eq0.false c.if-s-r.false) at c.requires

pub returns : goal.returns
returns c = rw (prints_result c.args.s.now c.if-r-ne0.false c.if-r-eq0.false c.if-s-r.false) c.put_result.ensures
