-- The records so far are one store of rows, and the next is read as it was.
use Rattle.model.specs.Layout.{records_at, record_size, record_part}
use Rattle.model.specs.Image.{order_of, order_bytes}
use Rattle.model.specs.Admission.{joined_by}
use Rattle.lists.proofs.Fills.{Rows}
use Rattle.admission.proofs.acceptance.put_joined.Given as goal

abbrev pub invariant-loop-i : goal.invariant-loop-i
invariant-loop-i l = Rows (λ k. order_bytes (joined_by l.b (order_of (record_part l.initial.image k)))) record_size l.initial.image records_at l.i l.image
