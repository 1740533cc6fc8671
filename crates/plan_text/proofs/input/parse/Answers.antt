-- The questions in turn, of the first line and of what follows it.
use mathlib.Core.Path.{◌≡◌, sym, ◌∙◌}
use native.Mathlib.Omega.{arith}
use borrow.Author.Rules.{rules}
use Rattle.std.proofs.Common.{Some, None, tests}
use Rattle.std.proofs.lemmas.Result.{err_from_is_err_and}
use Rattle.model.specs.Limits.{max_stations}
use Rattle.model.specs.Lists.{within}
use Rattle.plan_text.specs.declared.answer.Form.TheVariants.{NotStations}
use Rattle.plan_text.proofs.input.InputLaws.{too_long, no_first_line, no_number, out_of_range_lem, tasks_read}
use Rattle.plan_text.proofs.input.parse.Goals as goal

pub returns-then-input-gt-MAX_INPUT : goal.returns-then-input-gt-MAX_INPUT
returns-then-input-gt-MAX_INPUT c = too_long _ (omega arith)

pub returns-in_default : goal.returns-in_default
returns-in_default c =
    let none : c.first_part.result.1 ≡ None = search rules in
    no_first_line _ (omega arith) _ (rw none at c.first_part.ensures.split)

pub returns-in_err-n : goal.returns-in_err-n
returns-in_err-n c =
    let p = err_from_is_err_and c.from_residual.result c.from_residual.ensures.1 in
    let none = c.in_err-n.ensures.ok_part in
    let said = rw none at c.in_err-n.ensures.value in
    let e : c.in_err-n.field-0.0 ≡ NotStations = cc in
    rw (p.1, p.2, e) (no_number _ (omega arith) _ _ (rw c.in_default-Some.is-1 at c.first_part.ensures.split) (rw none at c.number_of.ensures))

pub returns-then-not-contains : goal.returns-then-not-contains
returns-then-not-contains c =
    let inside : c.contains.result ≡ within 1 max_stations c.in_ok-n.n = search (rules, tests) in
    let number = rw c.in_ok-n.ensures.ok_part at c.number_of.ensures in
    out_of_range_lem _ (omega arith) _ _ (rw c.in_default-Some.is-1 at c.first_part.ensures.split) _ number (sym inside ∙ c.if-not-contains.true)

pub returns : goal.returns
returns c =
    let inside : c.contains.result ≡ within 1 max_stations c.in_ok-n.n = search (rules, tests) in
    let number = rw c.in_ok-n.ensures.ok_part at c.number_of.ensures in
    rw (c.read_tasks.ensures, c.in_default-Some.rest-is) (tasks_read _ (omega arith) _ _ (rw c.in_default-Some.is-1 at c.first_part.ensures.split) _ number (sym inside ∙ c.if-not-contains.false))
