-- What was fed is reached from the start, turn by turn.
use Rattle.log_model.specs.Reading.{begun}
use Rattle.log_reader.specs.Reached.{Reached}
use Rattle.rerun.proofs.read_all.Given as goal

abbrev pub invariant-loop : goal.invariant-loop
invariant-loop g l = Reached (record { reading = begun; image = l.fn.image }) (record { reading = l.s; image = l.image })
