-- What the answer to the offer says.
use mathlib.Core.Path.{◌≡◌}
use Rattle.std.specs.Prelude.{Ok, Err}
use Rattle.dispatcher.proofs.offer_parts.TakenLaws.{quote_gives}
use Rattle.dispatcher.proofs.offer_parts.quoted.Goals as goal

pub returns-in-Ok : goal.returns-in-Ok
returns-in-Ok c = rw c.done.ensures (λ reply whole. quote_gives _ _ reply _ c.in-Ok.ensures.decides)

pub returns-in-Err : goal.returns-in-Err
returns-in-Err c = rw c.from.ensures (λ reply whole. quote_gives _ _ reply _ c.in-Err.ensures.decides)
