-- `begin` computes to its definition.
use mathlib.Core.Path.{refl}
use Rattle.log_model.specs.Reading.{begun}
use Rattle.log_reader.proofs.feed.begin.Goals as goal

pub returns : goal.returns
unfolding begun
returns c = refl
