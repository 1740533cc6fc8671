-- A reply of another length is untouched; one of its length holds what the opening comes to.
use borrow.Author.Rules.{rules}
use Rattle.dispatcher.proofs.replies.Declines.{gives_back}
use Rattle.dispatcher.proofs.OpenLaws.{open_untouched}
use Rattle.dispatcher.proofs.open.dispatcher_open.Goals as goal

pub returns-in_default : goal.returns-in_default
returns-in_default c = gives_back (open_untouched c.args.image.now c.args.stations c.args.reply.now (search rules)) c.from.ensures (search rules) (search rules)

pub returns : goal.returns
returns c = gives_back (c.opened.ensures c.args.reply.now (search rules)) c.put_answer.ensures.number (search rules) (search rules)
