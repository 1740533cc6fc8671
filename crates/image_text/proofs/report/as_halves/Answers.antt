use mathlib.Core.Path.{◌∙◌}
use borrow.Author.Rules.{rules}
use Rattle.std.proofs.lemmas.List.{map-id}
use Rattle.lists.proofs.Arrays.{mapped}
use Rattle.image_text.proofs.report.as_halves.Goals as goal

pub returns : goal.returns
returns c = mapped (λ x. x) (search rules) c.map.ensures.items (λ p x y q k. search rules) ∙ map-id _
