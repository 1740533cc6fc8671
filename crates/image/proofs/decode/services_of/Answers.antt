-- Each entry is what its reader says, and the reader's image stays as it is.
use borrow.Author.Rules.{rules}
use Rattle.lists.proofs.Arrays.{filled_same}
use Rattle.image.proofs.decode.services_of.Goals as goal

pub returns : goal.returns
returns c = filled_same _ (λ i y q low called. search rules) c.from_fn.ensures.items
