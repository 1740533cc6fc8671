use Rattle.std.proofs.Common.{◌≡◌, ℕ, ◌-◌, ◌∙◌, sym, length, get_or, map, sum, bit_and, rules, arith, Fits, w16}
use borrow.Author.Tests.{tests}
use Rattle.std.proofs.lemmas.Iterator.{YieldsList-from_slice, YieldsList-from_zip, YieldsList-from_map}
use Rattle.std.proofs.lemmas.Iterator.Consumers.{sum_from_yields_List}
use Rattle.std.proofs.lemmas.Iterator.Adapters.{fits_from_length, at_most_from_yields_List}
use Rattle.std.proofs.lemmas.Slice.Zip.{length-zip}
use Rattle.std.specs.List.{zip}
use Rattle.lists.proofs.Library.{total_sum}
use Rattle.soundness.proofs.row_limits.LimitLaws.{counted_is}
use Rattle.soundness.proofs.row_limits.Limits.counted_total.Goals as goal

pub sum-requires-clause-fits : goal.sum-requires-clause-fits
sum-requires-clause-fits c =
    let long : length c.args.maxima ≡ 8 = search rules in
    fits_from_length _ _ 8 _
    (at_most_from_yields_List (YieldsList-from_zip (YieldsList-from_slice c.args.maxima cc) (YieldsList-from_slice c.args.self.counted cc)) (omega (arith, length-zip c.args.maxima c.args.self.counted)))
    c.map.ensures.closure (omega arith) (λ x r q k. search (rules, tests))

pub returns : goal.returns
returns c =
    let row = c.args.maxima in
    let long : length row ≡ 8 = search rules in
    let small : (j : ℕ) → Fits w16 (get_or row j 0) = λ j. search rules in
    let bits = c.args.self.counted in
    let added : c.sum.result ≡ sum (map (λ p. bit_and p.0 p.1) (zip row bits)) =
    sum_from_yields_List _ _ c.sum.ensures.ran
    (YieldsList-from_map _ (λ p. bit_and p.0 p.1) (YieldsList-from_zip (YieldsList-from_slice row cc) (YieldsList-from_slice bits cc)) c.map.ensures.closure (λ x r q k. search rules)) in
    added ∙ sym (total_sum (map (λ p. bit_and p.0 p.1) (zip row bits))) ∙ rw c.args.self.made.3 (counted_is row (c.args.self.n - 1) long (λ j. (small j).fits))
