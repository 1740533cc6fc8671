-- The first n entries, as the chain tests them.
use lib.Dec.{leb}
use borrow.Author.Rules.{rules}
use Rattle.std.proofs.Common.{tests}
use Rattle.std.proofs.lemmas.Iterator.{YieldsList-from_slice, YieldsList-from_take}
use Rattle.std.proofs.lemmas.Iterator.Search.{all_from_yields_List}
use Rattle.lists.proofs.Library.{all_list}
use Rattle.admission.proofs.formats.moving.Goals as goal

pub returns : goal.returns
returns c =
    rw (all_list (leb 1))
    (all_from_yields_List (leb 1) _ _ _ c.all.ensures.ran (YieldsList-from_take c.args.n (YieldsList-from_slice c.args.speeds (cc)) (cc)) (λ x b q k. search (rules, tests)))
