-- A reply of another length is untouched; one of its length holds what the quote comes to.
use mathlib.Core.Path.{refl}
use borrow.Author.Rules.{rules}
use Rattle.dispatcher.proofs.replies.Declines.{gives_back}
use Rattle.dispatcher.proofs.offer_parts.OfferLaws.{quote_untouched}
use Rattle.dispatcher.proofs.offer.dispatcher_quote.Goals as goal

pub returns-in_default : goal.returns-in_default
returns-in_default c = gives_back (quote_untouched _ _ c.args.reply.now (search rules)) c.from.ensures refl (search rules)

pub returns : goal.returns
returns c = gives_back (c.quote.ensures c.args.reply.now (search rules)) c.put_answer.ensures.number refl (search rules)
