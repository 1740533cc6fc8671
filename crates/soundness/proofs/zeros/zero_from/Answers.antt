-- The bytes laid one over the other.
use Rattle.std.proofs.Common.{◌≡◌, ◌-◌, ◌∙◌, ap, take, drop, bit_or, length-drop, rules, arith}
use lib.Seq.{take_all}
use Rattle.std.specs.List.{fold}
use Rattle.model.specs.Lists.{is_zero}
use Rattle.soundness.proofs.Parts.{overlaid_zero}
use Rattle.soundness.proofs.zeros.zero_from.Goals as goal

pub returns : goal.returns
returns c =
    let rest = drop c.args.at c.args.image.now in
    let laid : c.fold.result ≡ fold (λ a b. bit_or a b) 0 (take (2128 - c.args.at) rest) = search rules in
    let whole : take (2128 - c.args.at) rest ≡ rest = take_all (2128 - c.args.at) rest (simp length-drop (omega (arith, c.told-image))) in
    ap is_zero (rw whole at laid) ∙ overlaid_zero rest
