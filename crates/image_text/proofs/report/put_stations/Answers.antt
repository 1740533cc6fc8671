use native.Mathlib.Omega.{arith}
use Rattle.text.proofs.PrintedRows.{rows_none, rows_more, rows_room, rows_all}
use Rattle.image_text.specs.Report.{station_lines}
use Rattle.image_text.proofs.report.put_stations.Goals as goal

pub loop-i-init : goal.loop-i-init
loop-i-init c = rows_none _ _ _

pub put_station-requires : goal.put_station-requires
unfolding station_lines
put_station-requires c = rows_room _ c.loop-i.invariant (omega arith) c.requires

pub loop-i-preserved : goal.loop-i-preserved
loop-i-preserved c = rows_more _ c.loop-i.invariant c.put_station.ensures (omega arith)

pub returns : goal.returns
unfolding station_lines
returns c = rows_all c.loop-i.invariant (omega arith)
