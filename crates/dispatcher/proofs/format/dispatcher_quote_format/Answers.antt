-- A reply of another length is untouched; one of its length holds what the quote comes to.
use mathlib.Core.Path.{refl}
use borrow.Author.Rules.{rules}
use Rattle.dispatcher.proofs.replies.Declines.{gives_back}
use Rattle.dispatcher.proofs.format_parts.SheetLaws.{quote_untouched}
use Rattle.dispatcher.proofs.format.dispatcher_quote_format.Goals as goal

pub returns-in_default : goal.returns-in_default
returns-in_default c = gives_back (quote_untouched c.args.image.now (record { format = c.args.format; due_in = c.args.due_in; rank = c.args.rank; sheet = c.args.sheet.now }) c.args.reply.now (search rules)) c.from.ensures refl (search rules)

pub returns : goal.returns
returns c = gives_back (c.quote.ensures c.args.reply.now (search rules)) c.put_answer.ensures.number refl (search rules)
