use Rattle.text.proofs.Printing.{◌then◌}
use Rattle.image_text.specs.Report.{station_line}
use Rattle.image_text.proofs.report.put_station.Goals as goal

pub returns : goal.returns
unfolding station_line
returns c = c.figure.ensures then c.put_service.ensures then c.byte.ensures
