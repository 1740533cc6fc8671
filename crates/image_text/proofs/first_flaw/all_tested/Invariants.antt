-- The tests of the records so far.
use mathlib.Core.Path.{◌≡◌}
use Rattle.model.specs.Image.{orders_of}
use Rattle.image_text.specs.Records.{tests_of_all}
use Rattle.image_text.proofs.first_flaw.all_tested.Given as goal

abbrev pub invariant-loop-i : goal.invariant-loop-i
invariant-loop-i l = l.tests ≡ tests_of_all l.counted.n l.clock (orders_of l.counted.image.now l.i)
