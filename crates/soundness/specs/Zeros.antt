-- The zero bytes of one station entry and of one record, as `zero_bytes` of the model has them.
use Rattle.std.specs.Prelude.{List, ◌++◌, ℕ}
use Rattle.model.specs.Lists.{part}
use Rattle.model.specs.Layout.{service_zero_at, station_zero_at, record_zero_at, service_part, record_part}

abbrev pub service_zeros : List ℕ → ℕ → List ℕ
service_zeros image i = part (service_part image i) service_zero_at 2

abbrev pub record_zeros : List ℕ → ℕ → List ℕ
record_zeros image i = part (record_part image i) station_zero_at 3 ++ part (record_part image i) record_zero_at 4
