-- The part of what is printed that a printer of its own stores.
use Rattle.std.specs.Prelude.{List, ℕ}
use Rattle.model.specs.Lists.{concat, numbered}
use Rattle.log_model.specs.Output.{station_line}

-- The lines of the stations.
unfoldable pub station_lines : ℕ → List ℕ → List ℕ
station_lines all busy = concat (numbered (station_line all) 1 busy)
