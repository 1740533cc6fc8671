-- Each entry is what its reader says.
use mathlib.Core.Path.{◌∙◌}
use Prim.Native.Nat.{◌+◌, ◌*◌}
use native.Mathlib.Nat.{add-zero}
use borrow.Author.Rules.{rules}
use Rattle.model.specs.Lists.{upward}
use Rattle.model.specs.Bytes.{half, eight_halves}
use Rattle.lists.proofs.Arrays.{filled_same}
use Rattle.image.proofs.reader.eight_halves_at.Goals as goal

pub returns : goal.returns
unfolding upward eight_halves
returns c =
    filled_same (λ i. half c.args.s.now (c.args.at + 2 * i)) (λ i y q low called. (search rules, search rules)) c.from_fn.ensures.items
    ∙ rw (add-zero c.args.at)
