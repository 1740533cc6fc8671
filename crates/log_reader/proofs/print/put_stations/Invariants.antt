-- `put_stations` prints a row for each station: the loop has printed the first i.
use Rattle.text.proofs.PrintedRows.{Rows}
use Rattle.log_model.specs.Output.{station_line}
use Rattle.log_reader.proofs.print.put_stations.Given as goal

abbrev pub invariant-loop-i : goal.invariant-loop-i
invariant-loop-i l = Rows (station_line l.all) l.busy l.initial.text l.i l.text
