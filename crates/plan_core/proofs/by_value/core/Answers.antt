-- Each question that is passed, and the first that is not.
use mathlib.Core.Path.{◌≡◌, sym, ◌∙◌}
use borrow.Author.Rules.{rules}
use lib.ListN.{length}
use Rattle.std.proofs.Common.{tests}
use Rattle.std.proofs.lemmas.Result.{err_from_is_err_and}
use Rattle.model.specs.Limits.{max_stations}
use Rattle.model.specs.Lists.{within}
use Rattle.plan_model.specs.Limits.{max_tasks}
use Rattle.plan_core.specs.ByValue.{figures, core_of}
use Rattle.plan_core.proofs.figures.Same.{figures_same}
use Rattle.plan_core.proofs.by_value.core.Goals as goal

pub returns-then-not-contains : goal.returns-then-not-contains
unfolding core_of
returns-then-not-contains c =
    let stations : c.contains.result ≡ within 1 max_stations c.args.n = search (rules, tests) in
    rw (sym stations ∙ c.if-not-contains.true)

pub returns-then-not-contains-2 : goal.returns-then-not-contains-2
unfolding core_of
returns-then-not-contains-2 c =
    let stations : c.contains.result ≡ within 1 max_stations c.args.n = search (rules, tests) in
    let count : c.contains-2.result ≡ within 1 max_tasks (length c.args.tasks.now) = search (rules, tests) in
    rw (sym stations ∙ c.if-not-contains.false, sym count ∙ c.if-not-contains-2.true)

pub returns-in_err-table : goal.returns-in_err-table
unfolding core_of
returns-in_err-table c =
    let stations : c.contains.result ≡ within 1 max_stations c.args.n = search (rules, tests) in
    let count : c.contains-2.result ≡ within 1 max_tasks (length c.args.tasks.now) = search (rules, tests) in
    let p = err_from_is_err_and c.from_residual.result c.from_residual.ensures.1 in
    rw (p.1, p.2, c.in_err-table.ensures.0, sym stations ∙ c.if-not-contains.false, sym count ∙ c.if-not-contains-2.false, c.in_err-table.ensures.1)

pub returns : goal.returns
unfolding core_of
returns c =
    let stations : c.contains.result ≡ within 1 max_stations c.args.n = search (rules, tests) in
    let count : c.contains-2.result ≡ within 1 max_tasks (length c.args.tasks.now) = search (rules, tests) in
    let table = c.in_ok-table.ensures in
    let same : c.figures.result.items ≡ figures c.args.n c.args.tasks.now =
    c.figures.ensures ∙ rw (table.1, table.2) (figures_same c.args.n c.args.tasks.now) in
    rw (sym stations ∙ c.if-not-contains.false, sym count ∙ c.if-not-contains-2.false, table.0, ← same)
