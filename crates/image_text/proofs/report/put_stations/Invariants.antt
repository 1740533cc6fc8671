-- The lines so far are printed.
use Rattle.text.proofs.PrintedRows.{Rows}
use Rattle.image_text.specs.Report.{station_line}
use Rattle.image_text.proofs.report.put_stations.Given as goal

abbrev pub invariant-loop-i : goal.invariant-loop-i
invariant-loop-i l = Rows station_line l.services l.fn.text l.i l.text
