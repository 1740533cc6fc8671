-- Which stations' entries a list of orders serves.
use Rattle.std.specs.Prelude.{Bool, false, ◌||◌, List}
use Rattle.model.specs.declared.Order.{Order}
use Rattle.model.specs.declared.Service.{Service}
use Rattle.model.specs.Lists.{at, any, numbered}
use Rattle.model.specs.Soundness.{serves}

-- Of each station, whether an order of the list serves its entry.
unfoldable pub served_by : List Service → List Order → List Bool
served_by services orders = numbered (λ k e. any (serves k e) orders) 1 services

-- The same marks with those of one order more.
unfoldable pub marked_by : List Service → Order → List Bool → List Bool
marked_by services o marks = numbered (λ k e. at false marks k || serves k e o) 1 services
