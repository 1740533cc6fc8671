-- The clauses of one record, by the names that the code gives them.
use Rattle.std.specs.Prelude.{◌&&◌, ℕ, leb}
use Rattle.model.specs.declared.Order.{Order}
use Rattle.model.specs.DelayBound.{on_time}
use Rattle.model.specs.Soundness.{due_in_range, station_in_use, costs_in_range, maxima_in_range, sum_in_range, record_zero_beyond}
use Rattle.soundness.specs.declared.records.Tests.{Tests}

-- The clauses of a record in a pipeline of n stations whose clock shows `clock`.
unfoldable pub tests_of : ℕ → ℕ → Order → Tests
tests_of n clock o =
    record {
      accepted = leb o.accepted clock;
      due = due_in_range o;
      station = station_in_use n o;
      costs = costs_in_range n o.costs;
      maxima = maxima_in_range n o;
      sum = sum_in_range o;
      on_time = on_time n o;
      beyond = record_zero_beyond n o;
    }

-- Those that hold in both.
unfoldable pub both_of : Tests → Tests → Tests
both_of a b =
    record {
      accepted = a.accepted && b.accepted;
      due = a.due && b.due;
      station = a.station && b.station;
      costs = a.costs && b.costs;
      maxima = a.maxima && b.maxima;
      sum = a.sum && b.sum;
      on_time = a.on_time && b.on_time;
      beyond = a.beyond && b.beyond;
    }
