-- Each place has what is gathered there.
use Rattle.std.proofs.Common.{◌≡◌, ℕ, ◌∙◌, length, get_or, rules, Fits, w16}
use Rattle.lists.proofs.Arrays.{filled_same}
use Rattle.soundness.proofs.record_flaws.FlawLaws.{gathered, gathered_all, narrowed}
use Rattle.soundness.proofs.record_flaws.flaws_with.Goals as goal

pub returns : goal.returns
returns c =
    let o = c.args.o in
    let l = c.args.l in
    let flaws = c.args.flaws in
    let eight : length flaws ≡ 8 = search rules in
    let long : length o.costs ≡ 8 = search (rules, c.well_formed.1.1.0) in
    let tall : length o.maxima ≡ 8 = search (rules, c.well_formed.1.1.0) in
    let small : (i : ℕ) → Fits w16 (get_or o.costs i 0) = λ i. search (rules, c.well_formed.1.1.0) in
    gathered_all l.n l.made.0 l.made.1 l.made.2 o long tall (λ i. (small i).fits) flaws _ eight (c.unwrap_or-sum.ensures ∙ narrowed _ o.sum c.try_from.ensures)
    (filled_same (gathered flaws l.least l.most o.costs o.maxima _) (λ i y q low k. search rules) c.from_fn.ensures.items)
