-- `call_in` by the letter of the line, and whether its numbers follow it.
use mathlib.Core.Path.{◌∙◌}
use borrow.Author.Rules.{rules}
use Rattle.log_lines.proofs.fields.ReadingLaws.{no_call, advance_malformed, advance_read, offer_malformed, offer_read, offer_fits}
use Rattle.log_lines.proofs.fields.call_in.Goals as goal

pub returns-in_err-ticket : goal.returns-in_err-ticket
returns-in_err-ticket c = c.from_residual.ensures ∙ advance_malformed _ _ c.in-Some.ensures.cases.0 (search rules) c.in_err-ticket.was

pub returns-in-Some : goal.returns-in-Some
returns-in-Some c = advance_read _ _ c.in-Some.ensures.cases.0 (search rules) c.in_ok-ticket.was

pub returns-in_err-numbers : goal.returns-in_err-numbers
returns-in_err-numbers c = c.from_residual-in_err-numbers.ensures ∙ no_call _ _ c.in_default.ensures.cases c.in_err-numbers.ensures.cases

pub returns-in_err-values : goal.returns-in_err-values
returns-in_err-values c =
    c.from_residual-in_err-values.ensures
    ∙ offer_malformed _ _ c.requires c.in_default.ensures.cases c.in_ok-numbers.ensures.cases.0 (search rules) c.in_err-values.was

pub order_of-requires : goal.order_of-requires
order_of-requires c = offer_fits c.args.n c.args.line.now c.requires c.in_default.ensures.cases c.in_ok-numbers.ensures.cases.0 {read = c.numbers_in-2.result} (search rules) c.in_ok-values.was

pub returns : goal.returns
returns c =
    offer_read _ _ c.requires c.in_default.ensures.cases c.in_ok-numbers.ensures.cases.0 (search rules) c.in_ok-values.was c.order_of.ensures
