-- Whether a record passes the clauses of "Sound means".
use Rattle.std.specs.Prelude.{Bool, ◌&&◌, ℕ, leb}
use Rattle.model.specs.declared.Order.{Order}
use Rattle.model.specs.DelayBound.{on_time}
use Rattle.model.specs.Soundness.{due_in_range, station_in_use, costs_in_range, maxima_in_range, sum_in_range, zero_beyond, record_zero_beyond}

-- By what is looked at: ticks and station; the rows of costs and maxima.
unfoldable pub ticks_hold : ℕ → ℕ → Order → Bool
ticks_hold n clock o = leb o.accepted clock && due_in_range o && station_in_use n o && on_time n o

unfoldable pub rows_hold : ℕ → Order → Bool
rows_hold n o = costs_in_range n o.costs && maxima_in_range n o && sum_in_range o && zero_beyond n o.costs && zero_beyond n o.maxima

-- Every clause, in document 01's order.
unfoldable pub record_holds : ℕ → ℕ → Order → Bool
record_holds n clock o =
    leb o.accepted clock && due_in_range o && station_in_use n o && costs_in_range n o.costs && maxima_in_range n o && sum_in_range o && on_time n o && record_zero_beyond n o
