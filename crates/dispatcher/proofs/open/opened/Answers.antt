-- The two questions in turn.
use mathlib.Core.Path.{◌≡◌, refl}
use native.Mathlib.Omega.{arith}
use borrow.Author.Rules.{rules}
use Rattle.dispatcher.proofs.replies.Declines.{gives_back}
use Rattle.dispatcher.proofs.OpenLaws.{length_no, stations_no, few, done}
use Rattle.dispatcher.proofs.open.opened.Goals as goal

pub returns-in_default : goal.returns-in_default
returns-in_default c = λ reply whole. gives_back (length_no c.args.image.now c.args.stations reply whole (search rules)) refl (search rules) refl

pub returns-then-stations : goal.returns-then-stations
returns-then-stations c = λ reply whole.
    gives_back (stations_no c.args.image.now c.args.stations reply whole (search rules) c.if-stations.true) refl (search rules) refl

pub overflow_cast-stations : goal.overflow_cast-stations
overflow_cast-stations c = record { fits = omega (arith, few c.args.stations c.if-stations.false) }

pub returns : goal.returns
returns c = λ reply whole.
    gives_back (done c.args.image.now c.args.stations reply whole (search rules) c.if-stations.false) c.default.ensures.0 (search rules) (rw (c.default.ensures.0, c.default.ensures.1.0, c.default.ensures.1.1.0, c.default.ensures.1.1.1))
