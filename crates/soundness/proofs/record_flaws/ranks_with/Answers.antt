-- Each place has both ranks.
use Rattle.std.proofs.Common.{◌≡◌, length, get_or, rules, bit_or}
use Rattle.lists.proofs.Arrays.{filled_same}
use Rattle.soundness.proofs.record_flaws.FlawLaws.{ranks_all}
use Rattle.soundness.proofs.record_flaws.ranks_with.Goals as goal

pub returns : goal.returns
returns c =
    let ranks = c.args.ranks in
    let own = c.args.o.ranks in
    let eight : length ranks ≡ 8 = search rules in
    let long : length own ≡ 8 = search rules in
    ranks_all ranks own _ eight long
    (filled_same (λ k. bit_or (get_or ranks k 0) (get_or own k 0)) (λ i y q low k. search rules) c.from_fn.ensures.items)
