-- The header byte, the rows of the station entries and those of the live records make up the zero bytes.
use Rattle.std.proofs.Common.{◌++◌, sym}
use Rattle.model.specs.Limits.{max_stations}
use Rattle.model.specs.Lists.{is_zero, part, concat, upward}
use Rattle.model.specs.Layout.{header_zero_at}
use Rattle.model.specs.Image.{live_count}
use Rattle.model.specs.Soundness.{zero_bytes, zero_bytes_zero}
use Rattle.soundness.specs.Zeros.{service_zeros, record_zeros}
use Rattle.lists.proofs.Tests.{all_append}
use Rattle.soundness.proofs.counted.Counted.zero_bytes_zero.Goals as goal

pub returns : goal.returns
unfolding zero_bytes_zero zero_bytes
returns c =
    let image = c.args.self.image.now in
    let stations = concat (upward 0 max_stations (service_zeros image)) in
    let records = concat (upward 0 (live_count image) (record_zeros image)) in
    rw (c.header_zero.ensures, c.services_zero.ensures, c.records_zero.ensures, c.args.self.orders, ← all_append is_zero (part image header_zero_at 1) stations)
    (sym (all_append is_zero (part image header_zero_at 1 ++ stations) records))
