-- Document 01, "Sound means": one test for each clause, in its order.
use Rattle.std.specs.Prelude.{Bool, true, ◌&&◌, ◌||◌, List, [], ◌∷◌, ◌++◌, map, ℕ, ◌+◌, ◌*◌, take, drop, leb, ltb, eqb}
use Rattle.model.specs.declared.Order.{Order}
use Rattle.model.specs.declared.Service.{Service}
use Rattle.model.specs.Limits.{max_stations, max_live, max_cost, max_due_in, last_tick}
use Rattle.model.specs.Lists.{at, part, within, is_zero, largest, concat, all, any, all_stations, upward}
use Rattle.model.specs.State.{State}
use Rattle.model.specs.DelayBound.{on_time}
use Rattle.model.specs.Layout.{header_zero_at, records_at, record_size, service_zero_at, station_zero_at, record_zero_at, service_part, record_part}
use Rattle.model.specs.Image.{live_count, decode}

-- "N 1 to 8"
unfoldable pub station_count_in_range : State → Bool
station_count_in_range s = within 1 max_stations s.n

-- "live at most 32"
unfoldable pub live_count_in_range : List ℕ → Bool
live_count_in_range image = leb (live_count image) max_live

-- "clock at most 4,000,000,000"
unfoldable pub clock_in_range : State → Bool
clock_in_range s = leb s.clock last_tick

-- "zero bytes .. zero": those of the header, of each station entry and of each live record.
unfoldable pub zero_bytes : List ℕ → List ℕ
zero_bytes image =
    part image header_zero_at 1
    ++ concat (upward 0 max_stations (λ i. part (service_part image i) service_zero_at 2))
    ++ concat (upward 0 (live_count image) (λ i. part (record_part image i) station_zero_at 3 ++ part (record_part image i) record_zero_at 4))

unfoldable pub zero_bytes_zero : List ℕ → Bool
zero_bytes_zero image = all is_zero (zero_bytes image)

-- "unused records zero"
unfoldable pub unused_records_zero : List ℕ → Bool
unused_records_zero image = all is_zero (drop (records_at + record_size * live_count image) image)

-- "live tickets at least 1, rising, and below the next ticket where that is not 0"
unfoldable pub rising : List ℕ → Bool
rising [] = true
rising (a ∷ []) = true
rising (a ∷ b ∷ l) = ltb a b && rising (b ∷ l)

unfoldable pub tickets_in_order : State → Bool
tickets_in_order s =
    let given = map (λ (o : Order). o.ticket) s.orders in
    all (leb 1) given && rising given && (is_zero s.next || all (λ t. ltb t s.next) given)

-- "acceptance at most the clock"
unfoldable pub accepted_by_now : State → Order → Bool
accepted_by_now s o = leb o.accepted s.clock

-- "due tick 1 to 60,000 after acceptance and at most 4,000,000,000"
unfoldable pub due_in_range : Order → Bool
due_in_range o = within (o.accepted + 1) (o.accepted + max_due_in) o.due && leb o.due last_tick

-- "station 1 to N"
unfoldable pub station_in_use : ℕ → Order → Bool
station_in_use n o = within 1 n o.station

-- "costs in range"
unfoldable pub costs_in_range : ℕ → List ℕ → Bool
costs_in_range n costs = all (within 1 max_cost) (take n costs)

-- "each maximum at least the own cost and at most 6,000"
unfoldable pub maxima_in_range : ℕ → Order → Bool
maxima_in_range n o = all_stations (λ k m. within (at 0 o.costs k) max_cost m) (take n o.maxima)

-- "the sum at least the own largest cost"
unfoldable pub sum_in_range : Order → Bool
sum_in_range o = leb (largest o.costs) o.sum

-- "the order on time": `on_time`

-- "fields beyond N zero": of a record, and the station entries there.
unfoldable pub zero_beyond : ℕ → List ℕ → Bool
zero_beyond n fields = all is_zero (drop n fields)

unfoldable pub record_zero_beyond : ℕ → Order → Bool
record_zero_beyond n o = zero_beyond n o.ranks && zero_beyond n o.costs && zero_beyond n o.maxima

unfoldable pub is_idle : Service → Bool
is_idle e = is_zero e.ticket && is_zero e.left

unfoldable pub fields_beyond_zero : State → Bool
fields_beyond_zero s = all (record_zero_beyond s.n) s.orders && all is_idle (drop s.n s.services)

-- "each station idle (0, 0) or serving a live order that is at it, with ticks to go from 1 to its cost there"
unfoldable pub serves : ℕ → Service → Order → Bool
serves k e o = eqb o.ticket e.ticket && eqb o.station k && within 1 (at 0 o.costs k) e.left

unfoldable pub services_in_order : State → Bool
services_in_order s = all_stations (λ k e. is_idle e || any (serves k e) s.orders) (take s.n s.services)

-- The clauses in turn, and "Image sound?"
unfoldable pub clauses : List ℕ → List Bool
clauses image =
    let s = decode image in
    station_count_in_range s
    ∷ live_count_in_range image
    ∷ clock_in_range s
    ∷ zero_bytes_zero image
    ∷ unused_records_zero image
    ∷ tickets_in_order s
    ∷ all (accepted_by_now s) s.orders
    ∷ all due_in_range s.orders
    ∷ all (station_in_use s.n) s.orders
    ∷ all (λ (o : Order). costs_in_range s.n o.costs) s.orders
    ∷ all (maxima_in_range s.n) s.orders
    ∷ all sum_in_range s.orders
    ∷ all (on_time s.n) s.orders
    ∷ fields_beyond_zero s
    ∷ services_in_order s
    ∷ []

unfoldable pub sound : List ℕ → Bool
sound image = all (λ clause. clause) (clauses image)
