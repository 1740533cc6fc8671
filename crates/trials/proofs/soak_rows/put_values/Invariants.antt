-- The values so far are printed.
use Rattle.text.proofs.PrintedRows.{Rows}
use Rattle.image_text.specs.Report.{figure}
use Rattle.trials.proofs.soak_rows.put_values.Given as goal

abbrev pub invariant-loop-v : goal.invariant-loop-v
invariant-loop-v l = Rows (λ k. figure " ") l.values l.fn.text l.v-index l.text
