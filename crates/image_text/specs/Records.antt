-- The clauses that are asked of each live order, of all of them.
use Rattle.std.specs.Prelude.{List, ℕ, leb}
use Rattle.model.specs.declared.Order.{Order}
use Rattle.model.specs.Lists.{all}
use Rattle.model.specs.DelayBound.{on_time}
use Rattle.model.specs.Soundness.{due_in_range, station_in_use, costs_in_range, maxima_in_range, sum_in_range, record_zero_beyond}
use Rattle.soundness.specs.declared.records.Tests.{Tests}

unfoldable pub tests_of_all : ℕ → ℕ → List Order → Tests
tests_of_all n clock orders =
    record {
      accepted = all (λ (o : Order). leb o.accepted clock) orders;
      due = all due_in_range orders;
      station = all (station_in_use n) orders;
      costs = all (λ (o : Order). costs_in_range n o.costs) orders;
      maxima = all (maxima_in_range n) orders;
      sum = all sum_in_range orders;
      on_time = all (on_time n) orders;
      beyond = all (record_zero_beyond n) orders;
    }
