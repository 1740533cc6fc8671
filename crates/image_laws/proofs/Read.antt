-- What any image of bytes says is in range, if it counts at most 32 live orders; and its ranks are bytes.
use mathlib.Core.Path.{◌≡◌, refl}
use Prim.Native.Nat.{ℕ, ◌+◌, ◌*◌, ◌≤◌}
use mathlib.Core.List.{List}
use native.Mathlib.Omega.{arith}
use lib.ListN.{length}
use Rattle.model.specs.Limits.{max_stations, max_live}
use Rattle.model.specs.Bytes.{byte, word}
use Rattle.model.specs.Layout.{station_count_at, clock_at, next_at, services_at, service_size, records_at, record_size, service_part, record_part}
use Rattle.model.specs.Image.{live_count, service_of, order_of, decode}
use Rattle.lists.proofs.Fills.{length-upward}
use Rattle.image_laws.specs.InRange.{byte_limit, Below, InRange}
use Rattle.image_laws.specs.RoundTrip.{DecodeByteRanks}
use Rattle.image_laws.proofs.Rows.{upward_in, below_part}
use Rattle.image_laws.proofs.Parts.{word_below, service_in_range, ranks_below, order_in_range}

-- The figures of the state where the image has them.
pub decode_n : (image : List ℕ) → byte image station_count_at ≡ (decode image).n
unfolding decode
decode_n image = refl

pub decode_clock : (image : List ℕ) → word image clock_at ≡ (decode image).clock
unfolding decode
decode_clock image = refl

pub decode-next : (image : List ℕ) → word image next_at ≡ (decode image).next
unfolding decode
decode-next image = refl

pub decode-live : (image : List ℕ) → length (decode image).orders ≡ live_count image
unfolding decode
decode-live image = length-upward 0 (live_count image) (λ i. order_of (record_part image i))

pub decode_in_range : (image : List ℕ) → Below byte_limit image → live_count image ≤ max_live → InRange (decode image)
unfolding decode
decode_in_range image bytes few =
    record {
      n = bytes station_count_at;
      clock = word_below image bytes clock_at;
      next = word_below image bytes next_at;
      eight = length-upward 0 max_stations (λ i. service_of (service_part image i));
      services = λ e m.
          let w = upward_in 0 max_stations (λ i. service_of (service_part image i)) m in
          rw w.1 (service_in_range (service_part image w.0) (below_part (omega arith) image bytes (services_at + service_size * w.0) service_size));
      live = rw (decode-live image) few;
      orders = λ o m.
          let w = upward_in 0 (live_count image) (λ i. order_of (record_part image i)) m in
          rw w.1 (order_in_range (record_part image w.0) (below_part (omega arith) image bytes (records_at + record_size * w.0) record_size));
    }

pub decode-byte-ranks : DecodeByteRanks
unfolding decode
decode-byte-ranks image bytes o m =
    let w = upward_in 0 (live_count image) (λ i. order_of (record_part image i)) m in
    rw w.1 (ranks_below (record_part image w.0) (below_part (omega arith) image bytes (records_at + record_size * w.0) record_size))
