-- The worked cases. `paper_cases`: those of document 01, "Counter examples", that are marked P, but for plan's two. `further_cases`: what those leave open; the
-- figures are worked out by hand from document 01, and the second simulator gives the same.
use Rattle.std.specs.Prelude.{List, [], ◌∷◌, ◌++◌, map, ℕ, ◌+◌, ◌*◌, ◌-◌, take, replicate, ℤ, pos, negsuc}
use Rattle.model.specs.Lists.{concat, upward}
use Rattle.model.specs.Bytes.{two_bytes, four_bytes}
use Rattle.model.specs.Layout.{image_size, version, version_at, station_count_at, live_count_at, header_zero_at, clock_at, next_at, services_at, service_size, served_at, left_at, service_zero_at, records_at, record_size, ticket_at, accepted_at, due_at, sum_at, station_at, station_zero_at, ranks_at, costs_at, maxima_at, record_zero_at, block_size, reply_size}
use Rattle.model.specs.Questions.{zeros}
use Rattle.model.specs.Calls.{opening, quoting, offering, advancing}
use Rattle.model.specs.Table.{Row, opens, gives, replies, ill_sized, altered, written, holding, stations, serving, outs, bounds, dues, in_step}

-- Eight numbers of two bytes each; those not named are zero.
unfoldable pub halves : List ℕ → List ℕ
unfolding concat
halves numbers = concat (map two_bytes (take 8 (numbers ++ replicate 8 0)))

-- An order block: the due-in, the ranks, the costs. And one with the same rank at every station.
unfoldable pub block : ℕ → List ℕ → List ℕ → List ℕ
unfolding halves
block due_in ranks costs = four_bytes due_in ++ take 8 (ranks ++ replicate 8 0) ++ halves costs

unfoldable pub order : ℕ → ℕ → List ℕ → List ℕ
unfolding block
order due_in rank costs = block due_in (map (λ c. rank) costs) costs

-- "X costs 2, 3 with rank 0; Y costs 1, 2 with rank 5": by the due-in and the rank, since some cases name another.
unfoldable pub X : ℕ → ℕ → List ℕ
unfolding order
X due_in rank = order due_in rank (2 ∷ 3 ∷ [])

unfoldable pub Y : ℕ → ℕ → List ℕ
unfolding order
Y due_in rank = order due_in rank (1 ∷ 2 ∷ [])

-- The place of a field of a station's entry, by the station; of the first record, and of the second.
abbrev in_entry : ℕ → ℕ → ℕ
in_entry station field = services_at + service_size * (station - 1) + field

abbrev in_first : ℕ → ℕ
in_first field = records_at + field

abbrev in_second : ℕ → ℕ
in_second field = records_at + record_size + field

-- A margin below zero: `minus 1` is -1.
abbrev pub minus : ℕ → ℤ
minus v = negsuc (v - 1)

-- An offer that is done, with ticket, tick, margin; one that is late, with 11 or 12 and the margin; one that is declined by another number.
unfoldable pub accepts : List ℕ → ℕ → ℕ → ℤ → Row
accepts bytes ticket tick margin = gives (offering bytes) 0 (record { ticket = ticket; tick = tick; margin = margin })

unfoldable pub late : List ℕ → ℕ → ℤ → Row
late bytes number margin = gives (offering bytes) number (record { ticket = 0; tick = 0; margin = margin })

unfoldable pub declines : List ℕ → ℕ → Row
declines bytes number = gives (offering bytes) number zeros

-- A quote that is done: tick, margin.
unfoldable pub quotes : List ℕ → ℕ → ℤ → Row
quotes bytes tick margin = gives (quoting bytes) 0 (record { ticket = 0; tick = tick; margin = margin })

-- An advance that is done: the ticket out or 0, the new clock.
unfoldable pub advances : ℕ → ℕ → Row
advances ticket clock = gives advancing 0 (record { ticket = ticket; tick = clock; margin = pos 0 })

-- "X, due-in 20, at 0: ticket 1, tick 5, margin 15." "then Y at 0, due-in 7: ticket 2, tick 7, margin 0. X is out at 5, Y at 7."
unfoldable pub first_two : List Row
first_two =
    opens 2 ∷ accepts (X 20 0) 1 5 (pos 15) ∷ in_step ∷ bounds (5 ∷ []) ∷ accepts (Y 7 5) 2 7 (pos 0) ∷ in_step ∷ bounds (7 ∷ 7 ∷ []) ∷ dues (20 ∷ 7 ∷ [])
    ∷ advances 0 1 ∷ stations (1 ∷ 1 ∷ []) ∷ serving (1 ∷ 0 ∷ []) (1 ∷ 0 ∷ [])
    ∷ advances 0 2 ∷ stations (2 ∷ 1 ∷ []) ∷ serving (0 ∷ 0 ∷ []) (0 ∷ 0 ∷ [])
    ∷ advances 0 3 ∷ stations (2 ∷ 2 ∷ []) ∷ serving (0 ∷ 1 ∷ []) (0 ∷ 2 ∷ [])
    ∷ advances 0 4 ∷ stations (2 ∷ 2 ∷ []) ∷ serving (0 ∷ 1 ∷ []) (0 ∷ 1 ∷ [])
    ∷ advances 1 5 ∷ stations (2 ∷ []) ∷ serving (0 ∷ 0 ∷ []) (0 ∷ 0 ∷ []) ∷ outs (5 ∷ 0 ∷ []) ∷ in_step
    ∷ advances 0 6 ∷ stations (2 ∷ []) ∷ serving (0 ∷ 2 ∷ []) (0 ∷ 1 ∷ [])
    ∷ advances 2 7 ∷ stations [] ∷ serving (0 ∷ 0 ∷ []) (0 ∷ 0 ∷ []) ∷ outs (5 ∷ 7 ∷ []) ∷ bounds (7 ∷ 7 ∷ []) ∷ in_step
    ∷ []

-- "Y with due-in 6 instead: 11, margin -1."
unfoldable pub late_arrival : List Row
late_arrival = opens 2 ∷ accepts (X 20 0) 1 5 (pos 15) ∷ late (Y 6 5) 11 (minus 1) ∷ bounds (5 ∷ []) ∷ []

-- "X with due-in 6, then Y with due-in 100: 12, margin -1."
unfoldable pub late_live : List Row
late_live = opens 2 ∷ accepts (X 6 0) 1 5 (pos 1) ∷ late (Y 100 5) 12 (minus 1) ∷ bounds (5 ∷ []) ∷ []

-- "as the first two but X rank 5, Y rank 0: Y out at 3, X at 6."
unfoldable pub ranks_reversed : List Row
ranks_reversed =
    opens 2 ∷ accepts (X 20 5) 1 5 (pos 15) ∷ accepts (Y 7 0) 2 7 (pos 0)
    ∷ advances 0 1 ∷ stations (1 ∷ 2 ∷ []) ∷ serving (0 ∷ 0 ∷ []) (0 ∷ 0 ∷ [])
    ∷ advances 0 2 ∷ stations (1 ∷ 2 ∷ []) ∷ serving (1 ∷ 2 ∷ []) (1 ∷ 1 ∷ [])
    ∷ advances 2 3 ∷ stations (2 ∷ []) ∷ serving (0 ∷ 0 ∷ []) (0 ∷ 0 ∷ []) ∷ outs (0 ∷ 3 ∷ []) ∷ in_step
    ∷ advances 0 4 ∷ stations (2 ∷ []) ∷ serving (0 ∷ 1 ∷ []) (0 ∷ 2 ∷ [])
    ∷ advances 0 5 ∷ stations (2 ∷ []) ∷ serving (0 ∷ 1 ∷ []) (0 ∷ 1 ∷ [])
    ∷ advances 1 6 ∷ stations [] ∷ outs (6 ∷ 3 ∷ []) ∷ bounds (7 ∷ 7 ∷ []) ∷ in_step
    ∷ []

-- "X at 0 with due-in 20, one advance, then Y with rank 0 and due-in 7: Y starts at 2, not 1." X is in service from 0 to 2, and Y, with cost 1, is at
-- station 2 when the clock reaches 3.
unfoldable pub starts_at_two : List Row
starts_at_two =
    opens 2 ∷ accepts (X 20 0) 1 5 (pos 15)
    ∷ advances 0 1 ∷ stations (1 ∷ []) ∷ serving (1 ∷ 0 ∷ []) (1 ∷ 0 ∷ [])
    ∷ accepts (Y 7 0) 2 8 (pos 0) ∷ bounds (7 ∷ 8 ∷ []) ∷ dues (20 ∷ 8 ∷ []) ∷ in_step
    ∷ advances 0 2 ∷ stations (2 ∷ 1 ∷ []) ∷ serving (0 ∷ 0 ∷ []) (0 ∷ 0 ∷ [])
    ∷ advances 0 3 ∷ stations (2 ∷ 2 ∷ []) ∷ serving (0 ∷ 1 ∷ []) (0 ∷ 2 ∷ [])
    ∷ advances 0 4 ∷ stations (2 ∷ 2 ∷ []) ∷ serving (0 ∷ 1 ∷ []) (0 ∷ 1 ∷ [])
    ∷ advances 1 5 ∷ stations (2 ∷ []) ∷ serving (0 ∷ 0 ∷ []) (0 ∷ 0 ∷ [])
    ∷ advances 0 6 ∷ stations (2 ∷ []) ∷ serving (0 ∷ 2 ∷ []) (0 ∷ 1 ∷ [])
    ∷ advances 2 7 ∷ stations [] ∷ outs (5 ∷ 7 ∷ []) ∷ in_step
    ∷ []

-- "N = 1, cost 4: due-in 4 accepted, 3 gets 11."
unfoldable pub one_station : List Row
one_station =
    opens 1 ∷ late (order 3 0 (4 ∷ [])) 11 (minus 1) ∷ opens 1 ∷ accepts (order 4 0 (4 ∷ [])) 1 4 (pos 0)
    ∷ advances 0 1 ∷ serving (1 ∷ []) (3 ∷ []) ∷ advances 0 2 ∷ advances 0 3 ∷ advances 1 4 ∷ outs (4 ∷ []) ∷ bounds (4 ∷ []) ∷ in_step
    ∷ []

-- "N = 8, all costs 6,000: delay sum 48,000; due-in 0 gets 11." Document 02, (iii): "Eight costs of 6,000 are still declined".
unfoldable pub eight_stations : List Row
eight_stations =
    opens 8 ∷ late (order 0 0 (replicate 8 6000)) 11 (minus 39000) ∷ late (order 47999 0 (replicate 8 6000)) 11 (minus 1)
    ∷ opens 8 ∷ accepts (order 48000 0 (replicate 8 6000)) 1 48000 (pos 0) ∷ bounds (48000 ∷ []) ∷ in_step
    ∷ []

unfoldable pub paper_cases : List (List Row)
unfolding X Y accepts late advances first_two late_arrival late_live ranks_reversed starts_at_two one_station eight_stations
paper_cases = first_two ∷ late_arrival ∷ late_live ∷ ranks_reversed ∷ starts_at_two ∷ one_station ∷ eight_stations ∷ []

-- "stored numbers little-endian": image, order block and reply byte by byte, and by figures, so that a wrong place in `Layout` is seen. The block has due-in
-- 60,000, ranks 7 and 9, costs 300 and 5,000; a late quote has margin -5,300.
unfoldable pub byte_block : List ℕ
byte_block = 96 ∷ 234 ∷ 0 ∷ 0 ∷ 7 ∷ 9 ∷ replicate 6 0 ++ (44 ∷ 1 ∷ 136 ∷ 19 ∷ replicate 12 0)

unfoldable pub bytes_in_order : List Row
bytes_in_order =
    opens 2 ∷ holding 0 (87 ∷ 77 ∷ 67 ∷ 1 ∷ 0 ∷ 2 ∷ 0 ∷ 0 ∷ 0 ∷ 0 ∷ 0 ∷ 0 ∷ 1 ∷ 0 ∷ 0 ∷ 0 ∷ replicate (image_size - 16) 0)
    ∷ replies (offering byte_block) 0 (0 ∷ 0 ∷ 0 ∷ 0 ∷ 1 ∷ 0 ∷ 0 ∷ 0 ∷ 180 ∷ 20 ∷ 0 ∷ 0 ∷ 172 ∷ 213 ∷ 0 ∷ 0 ∷ [])
    ∷ holding 0 (87 ∷ 77 ∷ 67 ∷ 1 ∷ 0 ∷ 2 ∷ 1 ∷ 0 ∷ 0 ∷ 0 ∷ 0 ∷ 0 ∷ 2 ∷ 0 ∷ 0 ∷ 0 ∷ replicate 64 0)
    ∷ holding 80 (1 ∷ 0 ∷ 0 ∷ 0 ∷ 0 ∷ 0 ∷ 0 ∷ 0 ∷ 96 ∷ 234 ∷ 0 ∷ 0 ∷ 136 ∷ 19 ∷ 0 ∷ 0 ∷ 1 ∷ 0 ∷ 0 ∷ 0 ∷ 7 ∷ 9 ∷ replicate 6 0)
    ∷ holding 108 (44 ∷ 1 ∷ 136 ∷ 19 ∷ replicate 12 0) ∷ holding 124 (44 ∷ 1 ∷ 136 ∷ 19 ∷ replicate (image_size - 128) 0)
    ∷ replies advancing 0 (replicate 8 0 ++ (1 ∷ replicate 7 0))
    ∷ holding 8 (1 ∷ 0 ∷ 0 ∷ 0 ∷ 2 ∷ 0 ∷ 0 ∷ 0 ∷ 1 ∷ 0 ∷ 0 ∷ 0 ∷ 43 ∷ 1 ∷ 0 ∷ 0 ∷ replicate 56 0)
    ∷ replies (quoting (1 ∷ replicate 11 0 ++ (1 ∷ 0 ∷ 1 ∷ replicate 13 0))) 11 (11 ∷ replicate 11 0 ++ (76 ∷ 235 ∷ 255 ∷ 255 ∷ []))
    ∷ []

-- Three orders with equal ranks and equal due ticks at once: by the smaller ticket.
unfoldable pub equal_ranks : List Row
equal_ranks =
    opens 2 ∷ accepts (order 20 9 (1 ∷ 2 ∷ [])) 1 3 (pos 17) ∷ accepts (order 20 9 (2 ∷ 1 ∷ [])) 2 6 (pos 14) ∷ accepts (order 20 9 (1 ∷ 1 ∷ [])) 3 7 (pos 13)
    ∷ advances 0 1 ∷ stations (2 ∷ 1 ∷ 1 ∷ []) ∷ serving (0 ∷ 0 ∷ []) (0 ∷ 0 ∷ [])
    ∷ advances 0 2 ∷ stations (2 ∷ 1 ∷ 1 ∷ []) ∷ serving (2 ∷ 1 ∷ []) (1 ∷ 1 ∷ [])
    ∷ advances 1 3 ∷ stations (2 ∷ 1 ∷ []) ∷ serving (0 ∷ 0 ∷ []) (0 ∷ 0 ∷ [])
    ∷ advances 2 4 ∷ stations (2 ∷ []) ∷ serving (0 ∷ 0 ∷ []) (0 ∷ 0 ∷ [])
    ∷ advances 3 5 ∷ outs (3 ∷ 4 ∷ 5 ∷ []) ∷ bounds (7 ∷ 7 ∷ 7 ∷ []) ∷ in_step
    ∷ []

-- "the smallest rank there": each station by its own ranks. Tickets 1 and 2 have equal ranks at station 2, and equal due ticks, and go by ticket there,
-- though 2 has the better rank at station 1 and came to station 2 before 1. Ticket 2 is out at its bound.
unfoldable pub ranks_of_the_station : List Row
ranks_of_the_station =
    opens 2 ∷ accepts (block 20 (5 ∷ 5 ∷ []) (1 ∷ 1 ∷ [])) 1 2 (pos 18) ∷ accepts (block 20 (3 ∷ 5 ∷ []) (1 ∷ 1 ∷ [])) 2 3 (pos 17)
    ∷ accepts (block 20 (0 ∷ 0 ∷ []) (1 ∷ 4 ∷ [])) 3 7 (pos 13)
    ∷ advances 0 1 ∷ stations (1 ∷ 1 ∷ 2 ∷ [])
    ∷ advances 0 2 ∷ stations (1 ∷ 2 ∷ 2 ∷ []) ∷ serving (0 ∷ 3 ∷ []) (0 ∷ 3 ∷ [])
    ∷ advances 0 3 ∷ stations (2 ∷ 2 ∷ 2 ∷ []) ∷ serving (0 ∷ 3 ∷ []) (0 ∷ 2 ∷ [])
    ∷ advances 0 4 ∷ advances 3 5 ∷ advances 1 6 ∷ advances 2 7 ∷ outs (6 ∷ 7 ∷ 5 ∷ []) ∷ bounds (7 ∷ 7 ∷ 7 ∷ []) ∷ in_step
    ∷ []

-- "Stopping a sheet for one with a better rank" is a trap: Y has the better rank, and waits for X at station 1 and again at station 2.
unfoldable pub no_preemption : List Row
no_preemption =
    opens 2 ∷ accepts (X 20 5) 1 5 (pos 15) ∷ advances 0 1 ∷ accepts (Y 7 0) 2 8 (pos 0) ∷ serving (1 ∷ 0 ∷ []) (1 ∷ 0 ∷ [])
    ∷ advances 0 2 ∷ stations (2 ∷ 1 ∷ []) ∷ serving (0 ∷ 0 ∷ []) (0 ∷ 0 ∷ [])
    ∷ advances 0 3 ∷ stations (2 ∷ 2 ∷ []) ∷ serving (0 ∷ 1 ∷ []) (0 ∷ 2 ∷ [])
    ∷ advances 0 4 ∷ serving (0 ∷ 1 ∷ []) (0 ∷ 1 ∷ [])
    ∷ advances 1 5 ∷ advances 0 6 ∷ serving (0 ∷ 2 ∷ []) (0 ∷ 1 ∷ []) ∷ advances 2 7 ∷ outs (5 ∷ 7 ∷ []) ∷ in_step
    ∷ []

-- "Quote gives what offer would give, with ticket 0, and changes nothing in the image": done, with 11, with 12, with 5.
unfoldable pub quotes_only : List Row
quotes_only =
    opens 2 ∷ quotes (X 20 0) 5 (pos 15) ∷ accepts (X 8 0) 1 5 (pos 3)
    ∷ quotes (Y 100 5) 7 (pos 1)
    ∷ gives (quoting (Y 6 5)) 11 (record { ticket = 0; tick = 0; margin = minus 1 })
    ∷ gives (quoting (order 100 5 (1 ∷ 4 ∷ []))) 12 (record { ticket = 0; tick = 0; margin = minus 1 })
    ∷ gives (quoting []) 5 zeros ∷ bounds (5 ∷ []) ∷ in_step ∷ accepts (Y 100 5) 2 7 (pos 1)
    ∷ []

-- "Members that are out still count." X is out at 5. X again would make Y late, which only the first X does (12); the bound of Y, its sum and its maxima in
-- the image still have X in them; and the bound of an arrival has not: its interference set is itself and Y, by the costs of Y and not the maxima kept for Y.
-- "An order accepted at tick 5 may start in the advance from 5 to 6. One that leaves station 1 as the clock reaches 7 may start at station 2 in the
-- advance from 7 to 8."
unfoldable pub out_still_counts : List Row
out_still_counts =
    opens 2 ∷ accepts (X 20 0) 1 5 (pos 15) ∷ accepts (Y 9 5) 2 7 (pos 2)
    ∷ advances 0 1 ∷ advances 0 2 ∷ advances 0 3 ∷ advances 0 4 ∷ advances 1 5 ∷ stations (2 ∷ []) ∷ in_step
    ∷ late (X 100 0) 12 (minus 1) ∷ quotes (order 100 5 (1 ∷ 1 ∷ [])) 9 (pos 1) ∷ accepts (order 100 5 (2 ∷ 2 ∷ [])) 3 11 (pos 0)
    ∷ bounds (7 ∷ 9 ∷ 11 ∷ []) ∷ dues (20 ∷ 9 ∷ 105 ∷ []) ∷ in_step ∷ holding (in_first sum_at) (7 ∷ 0 ∷ 0 ∷ 0 ∷ [])
    ∷ holding (in_first maxima_at) (2 ∷ 0 ∷ 3 ∷ 0 ∷ [])
    ∷ advances 0 6 ∷ stations (2 ∷ 1 ∷ []) ∷ serving (3 ∷ 2 ∷ []) (1 ∷ 1 ∷ [])
    ∷ advances 2 7 ∷ stations (2 ∷ []) ∷ serving (0 ∷ 0 ∷ []) (0 ∷ 0 ∷ [])
    ∷ advances 0 8 ∷ stations (2 ∷ []) ∷ serving (0 ∷ 3 ∷ []) (0 ∷ 1 ∷ [])
    ∷ advances 3 9 ∷ outs (5 ∷ 7 ∷ 9 ∷ []) ∷ bounds (7 ∷ 9 ∷ 11 ∷ []) ∷ in_step
    ∷ []

-- "Skipping a start when a sheet reaches an idle station as another leaves" is a trap: at 4 ticket 2 reaches station 2 as 1 leaves it, and ticket 3 is
-- accepted as 2 leaves station 1; at 5 ticket 2 reaches station 3 as 1 is out. All start in the next advance. Ticket 3, accepted later, counts in the
-- bounds of 1 and 2.
unfoldable pub no_start_skipped : List Row
no_start_skipped =
    opens 3 ∷ accepts (order 20 0 (1 ∷ 3 ∷ 1 ∷ [])) 1 7 (pos 13) ∷ accepts (order 20 0 (3 ∷ 1 ∷ 2 ∷ [])) 2 12 (pos 8) ∷ bounds (12 ∷ 12 ∷ [])
    ∷ advances 0 1 ∷ stations (2 ∷ 1 ∷ []) ∷ serving (0 ∷ 0 ∷ 0 ∷ []) (0 ∷ 0 ∷ 0 ∷ [])
    ∷ advances 0 2 ∷ serving (2 ∷ 1 ∷ 0 ∷ []) (2 ∷ 2 ∷ 0 ∷ []) ∷ advances 0 3
    ∷ advances 0 4 ∷ stations (3 ∷ 2 ∷ []) ∷ serving (0 ∷ 0 ∷ 0 ∷ []) (0 ∷ 0 ∷ 0 ∷ [])
    ∷ accepts (order 60 0 (1 ∷ 1 ∷ 1 ∷ [])) 3 17 (pos 7) ∷ bounds (13 ∷ 13 ∷ 17 ∷ []) ∷ in_step
    ∷ advances 1 5 ∷ stations (3 ∷ 2 ∷ []) ∷ serving (0 ∷ 0 ∷ 0 ∷ []) (0 ∷ 0 ∷ 0 ∷ [])
    ∷ advances 0 6 ∷ stations (3 ∷ 3 ∷ []) ∷ serving (0 ∷ 0 ∷ 2 ∷ []) (0 ∷ 0 ∷ 1 ∷ [])
    ∷ advances 2 7 ∷ advances 3 8 ∷ outs (5 ∷ 7 ∷ 8 ∷ []) ∷ in_step
    ∷ []

-- The default due-in, and "Due tick = tick of acceptance + due-in."
unfoldable pub default_in_use : List Row
default_in_use =
    opens 2 ∷ accepts (X 0 0) 1 5 (pos 8995) ∷ advances 0 1 ∷ accepts (Y 0 5) 2 8 (pos 8993) ∷ dues (9000 ∷ 9001 ∷ []) ∷ in_step ∷ []

-- "the smallest margin over newcomer and live orders", here the second order's of up to five; one tick more and it is late.
unfoldable pub smallest_of_many : List Row
smallest_of_many =
    opens 1 ∷ accepts (order 30 0 (2 ∷ [])) 1 2 (pos 28) ∷ accepts (order 20 0 (3 ∷ [])) 2 5 (pos 15) ∷ accepts (order 50 0 (4 ∷ [])) 3 9 (pos 11)
    ∷ accepts (order 60 0 (5 ∷ [])) 4 14 (pos 6) ∷ late (order 60 0 (7 ∷ [])) 12 (minus 1) ∷ accepts (order 60 0 (6 ∷ [])) 5 20 (pos 0)
    ∷ bounds (20 ∷ 20 ∷ 20 ∷ 20 ∷ 20 ∷ []) ∷ dues (30 ∷ 20 ∷ 50 ∷ 60 ∷ 60 ∷ []) ∷ in_step
    ∷ []

-- Arrival and live order both late: 11 decides, and the smallest margin is the live order's.
unfoldable pub both_late : List Row
both_late = opens 2 ∷ accepts (X 5 0) 1 5 (pos 0) ∷ late (Y 6 5) 11 (minus 2) ∷ bounds (5 ∷ []) ∷ []

-- The least of everything: N = 1, cost 1, due-in 1, twice.
unfoldable pub one_tick : List Row
one_tick =
    opens 1 ∷ accepts (order 1 0 (1 ∷ [])) 1 1 (pos 0) ∷ advances 1 1 ∷ accepts (order 1 0 (1 ∷ [])) 2 2 (pos 0) ∷ advances 2 2
    ∷ outs (1 ∷ 2 ∷ []) ∷ bounds (1 ∷ 2 ∷ []) ∷ dues (1 ∷ 2 ∷ []) ∷ in_step
    ∷ []

-- Questions 1, 2 and 14 of open, and 1, 2 and 3 of the other calls, each before the next. An open that declines leaves an image in use alone; one that is
-- done makes it fresh.
unfoldable pub sizes_and_stations : List Row
sizes_and_stations =
    ill_sized (reply_size - 1) image_size (opening 2) 1 ∷ ill_sized 0 (image_size - 1) (opening 9) 1 ∷ ill_sized reply_size (image_size - 1) (opening 9) 2
    ∷ ill_sized reply_size (image_size + 1) (opening 2) 2
    ∷ gives (opening 0) 14 zeros ∷ gives (opening 9) 14 zeros ∷ gives (opening 258) 14 zeros
    ∷ ill_sized reply_size (image_size - 1) advancing 2 ∷ gives advancing 3 zeros ∷ gives (offering []) 3 zeros ∷ gives (quoting (X 20 0)) 3 zeros
    ∷ opens 2 ∷ accepts (X 20 0) 1 5 (pos 15)
    ∷ ill_sized (reply_size - 1) image_size (opening 3) 1 ∷ ill_sized (reply_size - 1) image_size (quoting (Y 7 5)) 1
    ∷ ill_sized (reply_size - 1) image_size (offering (Y 7 5)) 1 ∷ ill_sized (reply_size + 1) (image_size - 1) advancing 1
    ∷ ill_sized reply_size (image_size - 1) (opening 3) 2 ∷ ill_sized reply_size (image_size - 1) (quoting (Y 7 5)) 2
    ∷ ill_sized reply_size (image_size + 1) (offering (Y 7 5)) 2 ∷ ill_sized reply_size (image_size + 1) advancing 2
    ∷ gives (opening 9) 14 zeros ∷ bounds (5 ∷ []) ∷ in_step
    ∷ opens 8 ∷ outs [] ∷ in_step ∷ advances 0 1
    ∷ []

-- Questions 5, 6 and 7: a block of a byte less or more; a cost of 0 or 6,001, a cost or a rank beyond N; a due-in of 60,001. At the limits it is done. A block
-- with two faults gets the earlier number, and 4 goes before 5.
unfoldable pub order_blocks : List Row
order_blocks =
    opens 2 ∷ declines [] 5 ∷ declines (take (block_size - 1) (X 20 0)) 5 ∷ declines (X 20 0 ++ (0 ∷ [])) 5
    ∷ declines (order 20 0 (0 ∷ 3 ∷ [])) 6 ∷ declines (order 20 0 (2 ∷ 0 ∷ [])) 6
    ∷ declines (order 60000 0 (6001 ∷ 3 ∷ [])) 6 ∷ declines (order 60000 0 (2 ∷ 6001 ∷ [])) 6
    ∷ declines (block 20 [] (2 ∷ 3 ∷ 1 ∷ [])) 6 ∷ declines (block 20 [] (2 ∷ 3 ∷ 0 ∷ 0 ∷ 0 ∷ 0 ∷ 0 ∷ 1 ∷ [])) 6
    ∷ declines (block 20 (0 ∷ 0 ∷ 1 ∷ []) (2 ∷ 3 ∷ [])) 6 ∷ declines (block 20 (replicate 7 0 ++ (1 ∷ [])) (2 ∷ 3 ∷ [])) 6
    ∷ declines (X 60001 0) 7 ∷ declines (X 4294967295 0) 7
    ∷ declines (take (block_size - 1) (order 60001 0 (0 ∷ 3 ∷ []))) 5 ∷ declines (order 60001 0 (0 ∷ 3 ∷ [])) 6
    ∷ altered header_zero_at (1 ∷ []) (offering []) 4 zeros
    ∷ quotes (X 60000 0) 5 (pos 59995) ∷ quotes (order 60000 255 (6000 ∷ 6000 ∷ [])) 12000 (pos 48000) ∷ in_step
    ∷ []

-- Question 8: a due tick of 4,000,000,000 is the last. The clock is 3,999,999,980; then 3,999,991,000, for the default. 7 goes before 8, and 8 before 9.
unfoldable pub last_due_tick : List Row
last_due_tick =
    opens 2 ∷ written clock_at (236 ∷ 39 ∷ 107 ∷ 238 ∷ [])
    ∷ declines (X 21 0) 8 ∷ declines (X 0 0) 8 ∷ declines (X 60001 0) 7 ∷ altered next_at (0 ∷ []) (offering (X 21 0)) 8 zeros
    ∷ accepts (X 20 0) 1 3999999985 (pos 15) ∷ holding (in_first accepted_at) (236 ∷ 39 ∷ 107 ∷ 238 ∷ 0 ∷ 40 ∷ 107 ∷ 238 ∷ [])
    ∷ altered (in_first due_at) (1 ∷ 40 ∷ 107 ∷ 238 ∷ []) advancing 4 zeros ∷ advances 0 3999999981
    ∷ opens 2 ∷ written clock_at (216 ∷ 4 ∷ 107 ∷ 238 ∷ []) ∷ quotes (X 0 0) 3999991005 (pos 8995)
    ∷ altered clock_at (217 ∷ 4 ∷ 107 ∷ 238 ∷ []) (quoting (X 0 0)) 8 zeros
    ∷ []

-- Question 13: the clock reaches 4,000,000,000 and stays there. 4 goes before 13.
unfoldable pub last_clock : List Row
last_clock =
    opens 2 ∷ written clock_at (255 ∷ 39 ∷ 107 ∷ 238 ∷ []) ∷ advances 0 4000000000 ∷ gives advancing 13 zeros ∷ holding clock_at (0 ∷ 40 ∷ 107 ∷ 238 ∷ [])
    ∷ declines (X 20 0) 8 ∷ altered header_zero_at (1 ∷ []) advancing 4 zeros ∷ altered clock_at (1 ∷ 40 ∷ 107 ∷ 238 ∷ []) advancing 4 zeros
    ∷ []

-- Question 9: after ticket 4,294,967,295 none is left, and the image is sound. 9 goes before 11.
unfoldable pub last_ticket_given : List Row
last_ticket_given =
    opens 2 ∷ written next_at (254 ∷ 255 ∷ 255 ∷ 255 ∷ []) ∷ accepts (X 20 0) 4294967294 5 (pos 15) ∷ holding next_at (255 ∷ 255 ∷ 255 ∷ 255 ∷ [])
    ∷ accepts (Y 7 5) 4294967295 7 (pos 0) ∷ holding next_at (0 ∷ 0 ∷ 0 ∷ 0 ∷ []) ∷ declines (X 100 0) 9 ∷ gives (quoting (X 100 0)) 9 zeros
    ∷ declines (X 1 0) 9
    ∷ advances 0 1 ∷ serving (4294967294 ∷ 0 ∷ []) (1 ∷ 0 ∷ [])
    ∷ []

-- A live order's record by hand: accepted at 0 with rank 0; its maxima are its costs.
unfoldable pub record_bytes : ℕ → ℕ → ℕ → ℕ → List ℕ → List ℕ
unfolding halves
record_bytes ticket due sum station costs =
    four_bytes ticket ++ four_bytes 0 ++ four_bytes due ++ four_bytes sum ++ (station ∷ replicate 11 0)
    ++ halves costs ++ halves costs ++ replicate (record_size - record_zero_at) 0

-- "N = 1, 32 orders of cost 1, due-in 60,000; the next gets 10; after one advance it is accepted." The 32 by hand. 9 goes before 10, and 10 before 11.
unfoldable pub thirty_two_live : List Row
unfolding upward record_bytes
thirty_two_live =
    opens 1 ∷ written live_count_at (32 ∷ []) ∷ written next_at (33 ∷ []) ∷ written records_at (concat (upward 1 32 (λ t. record_bytes t 60000 32 1 (1 ∷ []))))
    ∷ declines (order 60000 0 (1 ∷ [])) 10 ∷ declines (order 1 0 (1 ∷ [])) 10
    ∷ altered next_at (0 ∷ []) (quoting (order 60000 0 (1 ∷ []))) 9 zeros
    ∷ advances 1 1 ∷ accepts (order 60000 0 (1 ∷ [])) 33 33 (pos 59967)
    ∷ []

-- N = 8, an order in service at every station, by hand: ticket t at station 9 - t, with one tick to go. All move on at once.
unfoldable pub all_stations_at_once : List Row
unfolding upward record_bytes
all_stations_at_once =
    opens 8 ∷ written live_count_at (8 ∷ []) ∷ written next_at (9 ∷ [])
    ∷ written services_at (concat (upward 1 8 (λ k. four_bytes (9 - k) ++ (1 ∷ 0 ∷ 0 ∷ 0 ∷ []))))
    ∷ written records_at (concat (upward 1 8 (λ t. record_bytes t 60 16 (9 - t) (replicate 8 2))))
    ∷ advances 1 1 ∷ stations (8 ∷ 7 ∷ 6 ∷ 5 ∷ 4 ∷ 3 ∷ 2 ∷ []) ∷ serving (replicate 8 0) (replicate 8 0)
    ∷ advances 0 2 ∷ stations (8 ∷ 7 ∷ 6 ∷ 5 ∷ 4 ∷ 3 ∷ 2 ∷ []) ∷ serving (0 ∷ 8 ∷ 7 ∷ 6 ∷ 5 ∷ 4 ∷ 3 ∷ 2 ∷ []) (0 ∷ replicate 7 1)
    ∷ []

-- An advance on a copy with other bytes: 3, 4, or done (clock 2).
unfoldable pub unmarks : ℕ → List ℕ → Row
unmarks place bytes = altered place bytes advancing 3 zeros

unfoldable pub spoils : ℕ → List ℕ → Row
spoils place bytes = altered place bytes advancing 4 zeros

unfoldable pub bears : ℕ → List ℕ → Row
bears place bytes = altered place bytes advancing 0 (record { ticket = 0; tick = 2; margin = pos 0 })

-- Questions 3 and 4: mark, version, and each clause of soundness broken by itself, beside what it just lets through. X and Y are accepted at 0 with due-in
-- 20, and the clock is 1. Their records are the first and the second, both with sum 5 and maxima 2 and 3, so that both bounds are 7.
unfoldable pub sound_images : List Row
sound_images =
    -- mark and version; 3 goes before 4
    opens 2 ∷ unmarks 0 (88 ∷ []) ∷ unmarks 2 (68 ∷ []) ∷ unmarks version_at ((version + 1) ∷ []) ∷ unmarks (version_at + 1) (1 ∷ [])
    ∷ unmarks 2 (68 ∷ two_bytes version ++ (9 ∷ []))
    -- "N 1 to 8"; "clock at most 4,000,000,000"
    ∷ spoils station_count_at (0 ∷ []) ∷ spoils station_count_at (9 ∷ []) ∷ spoils clock_at (1 ∷ 40 ∷ 107 ∷ 238 ∷ [])
    -- "live tickets at least 1, rising, and below the next ticket where that is not 0"
    ∷ accepts (X 20 0) 1 5 (pos 15) ∷ spoils (in_first ticket_at) (0 ∷ []) ∷ accepts (Y 20 5) 2 7 (pos 13) ∷ advances 0 1
    ∷ spoils (in_second ticket_at) (1 ∷ []) ∷ spoils (in_second ticket_at) (3 ∷ []) ∷ spoils next_at (2 ∷ []) ∷ bears next_at (0 ∷ []) ∷ bears next_at (9 ∷ [])
    -- "zero bytes and unused records zero"
    ∷ spoils header_zero_at (1 ∷ []) ∷ spoils (in_entry 1 service_zero_at) (1 ∷ []) ∷ spoils (in_entry 1 service_zero_at + 1) (1 ∷ [])
    ∷ spoils (in_entry 8 service_zero_at + 1) (1 ∷ [])
    ∷ spoils (in_first station_zero_at) (1 ∷ []) ∷ spoils (in_second station_zero_at + 2) (1 ∷ []) ∷ spoils (in_first record_zero_at) (1 ∷ [])
    ∷ spoils (in_second record_size - 1) (1 ∷ []) ∷ spoils (in_second record_size) (1 ∷ []) ∷ spoils (image_size - 1) (1 ∷ []) ∷ spoils live_count_at (1 ∷ [])
    -- "acceptance at most the clock; due tick 1 to 60,000 after acceptance"
    ∷ bears (in_second accepted_at) (1 ∷ []) ∷ spoils (in_second accepted_at) (2 ∷ []) ∷ bears (in_second due_at) (96 ∷ 234 ∷ [])
    ∷ spoils (in_second due_at) (97 ∷ 234 ∷ [])
    -- "station 1 to N; costs in range"
    ∷ spoils (in_second station_at) (0 ∷ []) ∷ bears (in_second station_at) (2 ∷ []) ∷ spoils (in_second station_at) (3 ∷ [])
    ∷ spoils (in_second costs_at) (0 ∷ []) ∷ spoils (in_second costs_at + 2) (0 ∷ [])
    -- "each maximum at least the own cost and at most 6,000"
    ∷ bears (in_second maxima_at) (1 ∷ []) ∷ spoils (in_second maxima_at) (0 ∷ []) ∷ bears (in_second maxima_at + 2) (2 ∷ [])
    ∷ spoils (in_second maxima_at + 2) (1 ∷ []) ∷ bears (in_second maxima_at + 2) (112 ∷ 23 ∷ []) ∷ spoils (in_second maxima_at + 2) (113 ∷ 23 ∷ [])
    -- "the sum at least the own largest cost; the order on time"
    ∷ bears (in_second sum_at) (2 ∷ []) ∷ spoils (in_second sum_at) (1 ∷ [])
    ∷ bears (in_second sum_at) (18 ∷ []) ∷ spoils (in_second sum_at) (19 ∷ []) ∷ spoils (in_second sum_at) (255 ∷ 255 ∷ 255 ∷ 255 ∷ [])
    ∷ bears (in_second due_at) (7 ∷ []) ∷ spoils (in_second due_at) (6 ∷ [])
    -- "fields beyond N zero"
    ∷ spoils (in_second ranks_at + 2) (1 ∷ []) ∷ spoils (in_second ranks_at + 7) (1 ∷ []) ∷ spoils (in_second costs_at + 4) (1 ∷ [])
    ∷ spoils (in_second costs_at + 14) (1 ∷ [])
    ∷ spoils (in_second maxima_at + 4) (1 ∷ []) ∷ spoils (in_second maxima_at + 15) (1 ∷ []) ∷ spoils (in_entry 3 served_at) (1 ∷ [])
    ∷ spoils (in_entry 3 left_at) (1 ∷ [])
    -- "each station idle (0, 0) or serving a live order that is at it, with ticks to go from 1 to its cost there": station 1 serves X, with 1 of 2 to go
    ∷ spoils (in_entry 1 left_at) (0 ∷ []) ∷ bears (in_entry 1 left_at) (2 ∷ []) ∷ spoils (in_entry 1 left_at) (3 ∷ []) ∷ spoils (in_entry 1 left_at + 1) (1 ∷ [])
    ∷ spoils (in_entry 1 served_at) (0 ∷ []) ∷ bears (in_entry 1 served_at) (2 ∷ []) ∷ spoils (in_entry 1 served_at) (3 ∷ [])
    ∷ spoils (in_entry 2 served_at) (2 ∷ 0 ∷ 0 ∷ 0 ∷ 1 ∷ [])
    -- by every call, and no byte is changed
    ∷ in_step ∷ written header_zero_at (1 ∷ []) ∷ gives advancing 4 zeros ∷ gives (offering (Y 20 5)) 4 zeros ∷ gives (quoting (Y 20 5)) 4 zeros
    ∷ []

-- The further cases: of the course of a tick, of offers, of images.
unfoldable pub tick_cases : List (List Row)
unfolding concat block order X Y accepts late quotes advances equal_ranks ranks_of_the_station no_preemption out_still_counts no_start_skipped one_tick all_stations_at_once
tick_cases = equal_ranks ∷ ranks_of_the_station ∷ no_preemption ∷ out_still_counts ∷ no_start_skipped ∷ one_tick ∷ all_stations_at_once ∷ []

unfoldable pub offer_cases : List (List Row)
unfolding concat block order X Y accepts late declines quotes advances quotes_only default_in_use smallest_of_many both_late order_blocks last_due_tick last_ticket_given thirty_two_live
offer_cases = quotes_only ∷ default_in_use ∷ smallest_of_many ∷ both_late ∷ order_blocks ∷ last_due_tick ∷ last_ticket_given ∷ thirty_two_live ∷ []

unfoldable pub image_cases : List (List Row)
unfolding X Y accepts declines advances byte_block bytes_in_order sizes_and_stations last_clock unmarks spoils bears sound_images
image_cases = bytes_in_order ∷ sizes_and_stations ∷ last_clock ∷ sound_images ∷ []

unfoldable pub further_cases : List (List Row)
further_cases = tick_cases ++ offer_cases ++ image_cases
