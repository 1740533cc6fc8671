-- As a quote, with the ticket; and where it is accepted, the order is written into the image.
use mathlib.Core.Path.{refl}
use borrow.Author.Rules.{rules}
use Rattle.dispatcher.proofs.replies.Declines.{gives_back}
use Rattle.dispatcher.proofs.offer_parts.TakenLaws.{offer_declined, offer_done, ticket_is, acceptable}
use Rattle.dispatcher.proofs.offer_parts.offered.Goals as goal

pub accept-requires : goal.accept-requires
accept-requires c = acceptable _ _ c.in-Ok.ensures c.requires (search rules) (search rules)

pub returns-in-Ok : goal.returns-in-Ok
returns-in-Ok c =
    gives_back (offer_done _ _ _ _ c.in-Ok.ensures.decides refl) (rw c.done-given.ensures at c.put_answer-number.ensures.number) c.accept.ensures (rw (c.done-given.ensures, ticket_is _ _ c.in-Ok.ensures) at c.put_answer-number.ensures.bytes)

pub returns-in-Err : goal.returns-in-Err
returns-in-Err c =
    gives_back (offer_declined _ _ _ c.in-Err.ensures.decides) (rw c.from.ensures at c.put_answer.ensures.number) refl (rw c.from.ensures at c.put_answer.ensures.bytes)
