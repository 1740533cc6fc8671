-- Document 01, "The image": what an image says, and the image that says it.
use Rattle.std.specs.Prelude.{Bool, ◌&&◌, List, [], ◌∷◌, ◌++◌, map, ℕ, ◌*◌, ◌-◌, length, take, replicate, eqb}
use Rattle.model.specs.declared.Order.{Order}
use Rattle.model.specs.declared.Service.{Service}
use Rattle.model.specs.Limits.{max_stations, max_live}
use Rattle.model.specs.Lists.{same, concat, upward}
use Rattle.model.specs.Bytes.{byte, half, word, eight_bytes, eight_halves, one_byte, two_bytes, four_bytes}
use Rattle.model.specs.State.{State}
use Rattle.model.specs.Layout.{mark, version, version_at, station_count_at, live_count_at, clock_at, next_at, served_at, left_at, record_size, ticket_at, accepted_at, due_at, sum_at, station_at, ranks_at, costs_at, maxima_at, service_part, record_part}

-- Question 3: "Mark and version as above?"
unfoldable pub marked : List ℕ → Bool
marked image = same (take (length mark) image) mark && eqb (half image version_at) version

abbrev pub live_count : List ℕ → ℕ
live_count image = byte image live_count_at

-- A station entry.
unfoldable pub service_of : List ℕ → Service
service_of s = record { ticket = word s served_at; left = half s left_at }

unfoldable pub service_bytes : Service → List ℕ
service_bytes e = four_bytes e.ticket ++ two_bytes e.left ++ (0 ∷ 0 ∷ [])

-- A record.
unfoldable pub order_of : List ℕ → Order
order_of s =
    record {
      ticket = word s ticket_at;
      accepted = word s accepted_at;
      due = word s due_at;
      sum = word s sum_at;
      station = byte s station_at;
      ranks = eight_bytes s ranks_at;
      costs = eight_halves s costs_at;
      maxima = eight_halves s maxima_at;
    }

unfoldable pub order_bytes : Order → List ℕ
order_bytes o =
    four_bytes o.ticket ++ four_bytes o.accepted ++ four_bytes o.due ++ four_bytes o.sum
    ++ one_byte o.station ++ (0 ∷ 0 ∷ 0 ∷ [])
    ++ o.ranks ++ concat (map two_bytes o.costs) ++ concat (map two_bytes o.maxima)
    ++ (0 ∷ 0 ∷ 0 ∷ 0 ∷ [])

-- The "eight station entries", and the first so many of the "32 records".
abbrev pub services_of : List ℕ → List Service
services_of image = upward 0 max_stations (λ i. service_of (service_part image i))

abbrev pub orders_of : List ℕ → ℕ → List Order
orders_of image count = upward 0 count (λ i. order_of (record_part image i))

-- What an image says. "live ones first in ticket order, the rest all zero"
unfoldable pub decode : List ℕ → State
decode image =
    record {
      n = byte image station_count_at;
      clock = word image clock_at;
      next = word image next_at;
      services = services_of image;
      orders = orders_of image (live_count image);
    }

-- The image that says it.
unfoldable pub encode : State → List ℕ
encode s =
    mark ++ two_bytes version ++ (s.n ∷ length s.orders ∷ 0 ∷ []) ++ four_bytes s.clock ++ four_bytes s.next
    ++ concat (map service_bytes s.services)
    ++ concat (map order_bytes s.orders)
    ++ replicate (record_size * (max_live - length s.orders)) 0
