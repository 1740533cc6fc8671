-- `thousandths` by whether a tick passed.
use mathlib.Core.Path.{◌≡◌, refl}
use mathlib.Core.Bool.{Bool, true, false, cond}
use mir.Val.{bool_byte}
use borrow.Author.Tests.{eq-eqb, ne_eqb}
use Rattle.log_model.specs.Rounding.{nearest, thousandths}
use Rattle.log_reader.proofs.rounding.thousandths.Goals as goal

pub returns-then-all-eq0 : goal.returns-then-all-eq0
unfolding thousandths
returns-then-all-eq0 c = rw (eq-eqb c.args.all 0 c.if-all-eq0.true)

-- What is left over is one more, or nothing.
as_number : (b : Bool) → bool_byte b ≡ cond b 1 0
as_number true = refl
as_number false = refl

pub returns : goal.returns
unfolding thousandths nearest
returns c = rw (ne_eqb c.args.all 0 c.if-all-eq0.false, c.from.ensures, c.from-whole.ensures, c.from-share.ensures, as_number)
