-- The order's length.
use borrow.Author.Rules.{rules}
use Rattle.dispatcher.proofs.offer_parts.OfferLaws.{block_no, block_yes}
use Rattle.dispatcher.proofs.offer_parts.lent_block.Goals as goal

pub returns-in_default-clause-number : goal.returns-in_default-clause-number
returns-in_default-clause-number c = block_no _ (search rules)

pub returns-clause-number : goal.returns-clause-number
returns-clause-number c = block_yes _ (search rules)
