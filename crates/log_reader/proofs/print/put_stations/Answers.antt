use Rattle.text.proofs.PrintedRows.{rows_none, rows_room, rows_more, rows_all}
use Rattle.log_reader.specs.Printed.{station_lines}
use Rattle.log_reader.proofs.print.put_stations.Goals as goal

pub loop-i-init : goal.loop-i-init
loop-i-init c = rows_none _ _ _

pub put_station-requires : goal.put_station-requires
unfolding station_lines
put_station-requires c = rows_room 0 c.loop-i.invariant c.loop-i-test.true c.requires.1

pub loop-i-preserved : goal.loop-i-preserved
loop-i-preserved c = rows_more 0 c.loop-i.invariant c.put_station.ensures c.loop-i-test.true

pub returns : goal.returns
unfolding station_lines
returns c = rows_all c.loop-i.invariant c.loop-i-test.false
