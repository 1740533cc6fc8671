-- The entries that are taken, added up, and each of the eight is below 65,536.
use Rattle.std.proofs.Common.{◌≡◌, ℕ, ◌-◌, ◌∙◌, sym, length, take, get_or, map, sum, rules, arith, Fits, w16}
use Rattle.std.proofs.iter.runs.Sources.{sums}
use Rattle.std.proofs.lemmas.Iterator.{YieldsList-from_slice, YieldsList-from_take, YieldsList-from_map}
use Rattle.std.proofs.lemmas.Iterator.Consumers.{sum_from_yields_List}
use Rattle.std.proofs.lemmas.List.{map-id}
use Rattle.lists.proofs.Library.{total_sum}
use Rattle.model.specs.Lists.{total}
use Rattle.soundness.proofs.row_figures.FigureLaws.{total_under}
use Rattle.soundness.proofs.row_figures.before_last.Goals as goal

pub sum-requires-clause-fits : goal.sum-requires-clause-fits
sum-requires-clause-fits c = search (rules, sums)

pub returns : goal.returns
returns c =
    let row = c.args.maxima in
    let long : length row ≡ 8 = search rules in
    let small : (j : ℕ) → Fits w16 (get_or row j 0) = λ j. search rules in
    let added : c.sum.result ≡ sum (map (λ x. x) (take (c.args.n - 1) row)) =
    sum_from_yields_List _ _ c.sum.ensures.ran
    (YieldsList-from_map _ (λ x. x) (YieldsList-from_take (c.args.n - 1) (YieldsList-from_slice row cc) cc) c.map.ensures.closure (λ x r q k. search rules)) in
    let is : c.sum.result ≡ total (take (c.args.n - 1) row) = (rw map-id at added) ∙ sym (total_sum (take (c.args.n - 1) row)) in
    (is, omega (arith, is, total_under row 65535 (λ j. omega (arith, (small j).fits)) (c.args.n - 1)))
