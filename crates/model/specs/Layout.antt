-- Document 01, "The image", and its order block and reply: the place of every field, counted from 0. Every definition names a place by these.
use Rattle.std.specs.Prelude.{List, [], ◌∷◌, ℕ, ◌+◌, ◌*◌}
use Rattle.model.specs.Lists.{part}

-- "2,128 bytes. Bytes 0 to 2 are the mark `WMC`; 3 to 4 the version, 1; then N, live count, and a zero byte; clock (4 bytes); next ticket (4)."
abbrev pub image_size : ℕ
image_size = 2128

abbrev pub mark : List ℕ
mark = 87 ∷ 77 ∷ 67 ∷ []

abbrev pub version : ℕ
version = 1

abbrev pub version_at : ℕ
version_at = 3

abbrev pub station_count_at : ℕ
station_count_at = 5

abbrev pub live_count_at : ℕ
live_count_at = 6

abbrev pub header_zero_at : ℕ
header_zero_at = 7

abbrev pub clock_at : ℕ
clock_at = 8

abbrev pub next_at : ℕ
next_at = 12

-- "Then eight station entries of 8 bytes: ticket in service or 0 (4), ticks to go (2), zero (2)."
abbrev pub services_at : ℕ
services_at = 16

abbrev pub service_size : ℕ
service_size = 8

abbrev pub served_at : ℕ
served_at = 0

abbrev pub left_at : ℕ
left_at = 4

abbrev pub service_zero_at : ℕ
service_zero_at = 6

-- "Then 32 records of 64 bytes ..: ticket, acceptance tick, due tick, sum of the company's largest costs (4 each); station (1); zero (3);
-- eight ranks (1 each); eight costs (2 each); the company's largest cost at each station (2 each); zero (4)."
abbrev pub records_at : ℕ
records_at = 80

abbrev pub record_size : ℕ
record_size = 64

abbrev pub ticket_at : ℕ
ticket_at = 0

abbrev pub accepted_at : ℕ
accepted_at = 4

abbrev pub due_at : ℕ
due_at = 8

abbrev pub sum_at : ℕ
sum_at = 12

abbrev pub station_at : ℕ
station_at = 16

abbrev pub station_zero_at : ℕ
station_zero_at = 17

abbrev pub ranks_at : ℕ
ranks_at = 20

abbrev pub costs_at : ℕ
costs_at = 28

abbrev pub maxima_at : ℕ
maxima_at = 44

abbrev pub record_zero_at : ℕ
record_zero_at = 60

-- The bytes of the service entry and of the record at place i, counted from 0.
abbrev pub service_part : List ℕ → ℕ → List ℕ
service_part image i = part image (services_at + service_size * i) service_size

abbrev pub record_part : List ℕ → ℕ → List ℕ
record_part image i = part image (records_at + record_size * i) record_size

-- "An order block is 28 bytes: due-in (4), eight ranks, eight costs (2 each)."
abbrev pub block_size : ℕ
block_size = 28

abbrev pub block_due_in_at : ℕ
block_due_in_at = 0

abbrev pub block_ranks_at : ℕ
block_ranks_at = 4

abbrev pub block_costs_at : ℕ
block_costs_at = 12

-- Document 02, (i): "a station sheet of 32 bytes: eight fixed ticks, then eight speeds in millimetres per tick, 2 bytes each"
abbrev pub sheet_size : ℕ
sheet_size = 32

abbrev pub sheet_fixed_at : ℕ
sheet_fixed_at = 0

abbrev pub sheet_speeds_at : ℕ
sheet_speeds_at = 16

-- "The reply holds number (0 for done), ticket, tick, margin (signed), 4 bytes each"
abbrev pub reply_size : ℕ
reply_size = 16

abbrev pub reply_ticket_at : ℕ
reply_ticket_at = 4

abbrev pub reply_tick_at : ℕ
reply_tick_at = 8

abbrev pub reply_margin_at : ℕ
reply_margin_at = 12
