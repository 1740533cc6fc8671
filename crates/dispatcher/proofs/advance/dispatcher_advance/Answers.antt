-- A reply of another length is untouched; one of its length holds what the tick comes to.
use borrow.Author.Rules.{rules}
use mathlib.Core.Path.{◌≡◌, refl}
use Rattle.dispatcher.proofs.replies.Declines.{gives_back}
use Rattle.dispatcher.proofs.advance_parts.AdvanceLaws.{advance_untouched}
use Rattle.dispatcher.proofs.advance.dispatcher_advance.Goals as goal

pub returns-in_default : goal.returns-in_default
returns-in_default c = gives_back (advance_untouched c.args.image.now c.args.reply.now (search rules)) c.from.ensures (search rules) (search rules)

pub returns : goal.returns
returns c =
    let lent : c.in-Some.reply.now ≡ c.args.reply.now = search rules in
    gives_back (rw lent at c.advanced.ensures) refl (search rules) (search rules)
