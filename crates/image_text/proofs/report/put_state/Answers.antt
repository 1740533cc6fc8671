use native.Mathlib.Omega.{arith}
use Rattle.image.specs.Pipeline.{listed}
use Rattle.text.proofs.Printing.{◌then◌}
use Rattle.image_text.specs.Report.{state_report}
use Rattle.image_text.proofs.report.Lengths.{length_state}
use Rattle.image_text.proofs.report.put_state.Goals as goal

pub put_head-requires : goal.put_head-requires
unfolding listed
put_head-requires c = omega (arith, length_state (listed c.args.p.now))

pub put_stations-requires : goal.put_stations-requires
unfolding listed
put_stations-requires c = rw c.from-n.ensures (omega (arith, length_state (listed c.args.p.now)))

pub put_orders-requires : goal.put_orders-requires
unfolding listed
put_orders-requires c =
    let stations = rw c.from-n.ensures at c.put_stations.ensures in
    rw (c.from-n.ensures, c.from.ensures) (c.requires.0, omega (arith, length_state (listed c.args.p.now), stations.put.place, stations.room))

pub returns : goal.returns
unfolding listed state_report
returns c = rw (c.from-n.ensures, c.from.ensures) at (c.put_head.ensures then c.put_stations.ensures then c.put_orders.ensures)
