-- `stations_in` by the letter of the line, whether a number follows it, and what that is.
use mathlib.Core.Path.{◌≡◌, ◌∙◌}
use borrow.Author.Rules.{rules}
use lib.ListN.{get_or}
use Rattle.model.specs.Limits.{max_stations}
use Rattle.model.specs.Lists.{within}
use Rattle.log_lines.proofs.fields.ReadingLaws.{no_count, count_malformed, count_read}
use Rattle.log_lines.proofs.fields.stations_in.Goals as goal

pub returns-in_err-numbers : goal.returns-in_err-numbers
returns-in_err-numbers c = c.from_residual.ensures ∙ no_count _ c.in_err-numbers.ensures.cases

pub returns-in_err-n : goal.returns-in_err-n
returns-in_err-n c = c.from_residual-in_err-n.ensures ∙ count_malformed _ c.in_ok-numbers.ensures.cases.0 (search rules) c.in_err-n.was

pub returns : goal.returns
returns c =
    let n = get_or c.in_ok-n.field-0 0 0 in
    let inside : c.contains.result ≡ within 1 max_stations n = search rules in
    c.then_some.ensures ∙ rw inside (count_read _ c.in_ok-numbers.ensures.cases.0 (search rules) c.in_ok-n.was)
