-- A use of the worked cases: each case is taken from the one table, and has the rows with the figures that document 01 gives, so that a case left out, a row
-- left out or another figure is refused.
use mathlib.Core.Path.{◌≡◌, refl}
use mathlib.Core.Bool.{true}
use mathlib.Core.List.{List, [], ◌∷◌, ◌++◌}
use Prim.Native.Nat.{ℕ}
use lib.ListN.{length, take, get_or, replicate}
use lib.IntN.{pos, negsuc}
use Rattle.model.specs.Formats.{FormatOrder}
use Rattle.model.specs.Calls.{offering, quoting_format, offering_format, advancing}
use Rattle.model.specs.Table.{Row, opens, gives, serving, outs, bounds, in_step, Hold}
use Rattle.model.specs.Cases.{block, order, X, Y, accepts, late, advances, first_two, late_arrival, late_live, ranks_reversed, starts_at_two, one_station, eight_stations, paper_cases}
use Rattle.model.specs.FormatCases.{sheet_of, by_format, takes, too_late, refuses, tells, two_stations, first_two_by_format, late_by_format, told, ten_formats, format_numbers, format_cases}
use Rattle.model.specs.DefaultCases.{sides_of_default, sides_with_live, sides_by_format, default_cases}
use Rattle.model.specs.TieCases.{later_ticket_due_first, equal_due_ticks, rank_before_due_tick, due_tick_not_due_in, tie_at_the_next_station, tie_cases}
use Rattle.text.specs.Ascii.{ascii}
use Rattle.log_model.specs.Cases.{◌reruns◌, is_rerun, idle_ticks, is_share}
use Rattle.plan_model.specs.Cases.{◌prints◌, is_printed}
use Rattle.claims.specs.WorkedCases.{paper_table}
use Rattle.claims.proofs.Claims.{claims}

-- ---- the cases of the counter, in document 01's order, and plan's two
counter : Hold first_two × Hold late_arrival × Hold late_live × Hold ranks_reversed × Hold starts_at_two × Hold one_station × Hold eight_stations
unfolding paper_table paper_cases
counter =
    let c = claims.worked_cases in
    (c.0, c.1.0, c.1.1.0, c.1.1.1.0, c.1.1.1.1.0, c.1.1.1.1.1.0, c.1.1.1.1.1.1.0)

plans : (is_printed (ascii "2\n10 10 2 3\n8 8 1 2\n" prints ascii "task base response verdict\n1 5 9 on-time\n2 4 10 late\n") ≡ true) × (is_printed (ascii "2\n10 10 2 3\n8 7 1 2\n" prints ascii "task base response verdict\n1 5 9 on-time\n2 4 10 late\n") ≡ true)
unfolding paper_table paper_cases
plans = let c = claims.worked_cases.1.1.1.1.1.1.1 in (c.0, c.1.0)

-- ---- those of orders by format
by_formats : Hold first_two_by_format × Hold late_by_format × Hold ten_formats × Hold format_numbers
unfolding paper_table paper_cases format_cases
by_formats = let c = claims.worked_cases.1.1.1.1.1.1.1.1.1 in (c.0, c.1.0, c.1.1.0, c.1.1.1.0)

-- ---- plan's further tables
inside : (is_printed (ascii "1\n100 20 4\n10 5 2\n" prints ascii "task base response verdict\n1 4 6 on-time\n2 2 6 late\n") ≡ true) × (is_printed (ascii "1\n100 20 4\n10 6 2\n" prints ascii "task base response verdict\n1 4 8 on-time\n2 2 6 late\n") ≡ true) × (is_printed (ascii "1\n100 11 4\n1 1 1\n100 100 2\n" prints ascii "task base response verdict\n1 4 12 late\n2 1 1 late\n3 2 102 late\n") ≡ true) × (is_printed (ascii "8\n60000 60000 5999 5999 5999 5999 5999 5999 5999 5999\n60000 60000 6000 6000 6000 6000 6000 6000 6000 1\n" prints ascii "task base response verdict\n1 47999 59999 on-time\n2 48000 59998 on-time\n") ≡ true)
unfolding paper_table paper_cases format_cases
inside = let c = claims.worked_cases.1.1.1.1.1.1.1.1.1.1.1.1.1 in (c.0, c.1.0, c.1.1.0, c.1.1.1.0)

-- ---- those of the default due-in
by_default : Hold sides_of_default × Hold sides_with_live × Hold sides_by_format
unfolding paper_table paper_cases format_cases default_cases
by_default = let c = claims.worked_cases.1.1.1.1.1.1.1.1.1.1.1.1.1.1.1.1.1 in (c.0, c.1.0, c.1.1.0)

-- ---- those of logs: one at least of each kind, the first and the last among them; and of the last column
of_logs : (is_rerun (ascii "" reruns ascii "refused 21 1\n") ≡ true) × (is_rerun (ascii "N 1\nO 0 5 2 0 1\nT 0\nT 1\nT 0\n" reruns ascii "same\n1 2 667\n") ≡ true) × (is_rerun (ascii "N 1\nO 0 0 1 0 1\nT 1\n" ++ idle_ticks 15 reruns ascii "same\n1 1 63\n") ≡ true) × (is_rerun (ascii "N 1\nO 0 5 6001 6 1\n" reruns ascii "differs 2\n") ≡ true) × (is_rerun (ascii "N 1\nT 7\nT 0\nX\n" reruns ascii "refused 21 4\n") ≡ true) × (is_rerun (ascii "N 9\n" reruns ascii "refused 21 1\n") ≡ true) × (is_rerun (ascii "N 1\nO 4294967296 255 1 7 0\n" reruns ascii "refused 21 2\n") ≡ true) × (is_rerun (ascii "N 1\nT 4294967296\n" reruns ascii "refused 21 2\n") ≡ true)
unfolding paper_table paper_cases format_cases default_cases
of_logs =
    let c = claims.worked_cases.1.1.1.1.1.1.1.1.1.1.1.1.1.1.1.1.1.1.1.1 in
    (c.0, c.1.1.1.0, c.1.1.1.1.1.0, c.1.1.1.1.1.1.1.1.0, c.1.1.1.1.1.1.1.1.1.1.1.1.0, c.1.1.1.1.1.1.1.1.1.1.1.1.1.1.1.1.0, c.1.1.1.1.1.1.1.1.1.1.1.1.1.1.1.1.1.1.1.1.1.1.1.1.1.0, c.1.1.1.1.1.1.1.1.1.1.1.1.1.1.1.1.1.1.1.1.1.1.1.1.1.1.1.1.1.1.1.0)

in_thousandths : (is_share (record { busy = 1; all = 2000; printed = 1 }) ≡ true) × (is_share (record { busy = 3; all = 2000; printed = 2 }) ≡ true) × (is_share (record { busy = 4000000000; all = 4000000000; printed = 1000 }) ≡ true)
unfolding paper_table paper_cases format_cases default_cases
in_thousandths = let c = claims.worked_cases.1.1.1.1.1.1.1.1.1.1.1.1.1.1.1.1.1.1.1.1.1.1.1.1.1.1.1.1.1.1.1.1.1.1.1.1.1.1.1.1.1.1.1.1.1.1.1.1.1.1.1.1 in (c.1.1.0, c.1.1.1.0, c.1.1.1.1.1.1.1.0)

-- ---- those of ties, of calls and of logs
by_due_tick : Hold later_ticket_due_first × Hold equal_due_ticks × Hold rank_before_due_tick × Hold due_tick_not_due_in × Hold tie_at_the_next_station
unfolding paper_table paper_cases format_cases default_cases tie_cases
by_due_tick = let c = claims.worked_cases.1.1.1.1.1.1.1.1.1.1.1.1.1.1.1.1.1.1.1.1.1.1.1.1.1.1.1.1.1.1.1.1.1.1.1.1.1.1.1.1.1.1.1.1.1.1.1.1.1.1.1.1.1.1.1.1.1.1.1.1 in (c.0, c.1.0, c.1.1.0, c.1.1.1.0, c.1.1.1.1.0)

tie_logs : (is_rerun (ascii "N 1\nO 20 5 3 0 1\nO 10 5 2 0 2\nT 0\nT 2\nT 0\nT 0\nT 1\n" reruns ascii "same\n1 5 1000\n") ≡ true) × (is_rerun (ascii "N 1\nO 20 5 3 0 1\nO 10 5 2 0 2\nT 0\nT 0\nT 1\nT 0\nT 2\n" reruns ascii "differs 5\n") ≡ true) × (is_rerun (ascii "N 1\nO 20 0 3 0 1\nO 20 5 2 0 2\nT 0\nO 19 5 1 0 3\nT 0\nT 1\nT 0\nT 2\nT 3\n" reruns ascii "same\n1 6 1000\n") ≡ true)
unfolding paper_table paper_cases format_cases default_cases tie_cases
tie_logs = let c = claims.worked_cases.1.1.1.1.1.1.1.1.1.1.1.1.1.1.1.1.1.1.1.1.1.1.1.1.1.1.1.1.1.1.1.1.1.1.1.1.1.1.1.1.1.1.1.1.1.1.1.1.1.1.1.1.1.1.1.1.1.1.1.1.1.1.1.1.1 in (c.0, c.1.0, c.1.1.0)

-- ---- their rows: an offer with its number, ticket, tick and margin; an advance with the ticket out and the clock
abbrev row_at : List Row → ℕ → Row
row_at rows k = get_or rows k in_step

abbrev offered : List ℕ → ℕ → ℕ → ℕ → Row
offered block ticket tick margin = gives (offering block) 0 (record { ticket = ticket; tick = tick; margin = pos margin })

abbrev declined_by : List ℕ → ℕ → ℕ → Row
declined_by block number below = gives (offering block) number (record { ticket = 0; tick = 0; margin = negsuc below })

abbrev advanced : ℕ → ℕ → Row
advanced ticket clock = gives advancing 0 (record { ticket = ticket; tick = clock; margin = pos 0 })

-- So many rows each.
lengths : (length first_two ≡ 34) × (length late_arrival ≡ 4) × (length late_live ≡ 4) × (length ranks_reversed ≡ 25) × (length starts_at_two ≡ 28) × (length one_station ≡ 12) × (length eight_stations ≡ 7)
unfolding first_two late_arrival late_live ranks_reversed starts_at_two one_station eight_stations
lengths = (refl, refl, refl, refl, refl, refl, refl)

-- "X, due-in 20, at 0: ticket 1, tick 5, margin 15." "then Y at 0, due-in 7: ticket 2, tick 7, margin 0. X is out at 5, Y at 7."
first_two_lem : (row_at first_two 0 ≡ opens 2) × (row_at first_two 1 ≡ offered (X 20 0) 1 5 15) × (row_at first_two 4 ≡ offered (Y 7 5) 2 7 0) × (row_at first_two 20 ≡ advanced 1 5) × (row_at first_two 28 ≡ advanced 2 7) × (row_at first_two 31 ≡ outs (5 ∷ 7 ∷ []))
unfolding first_two accepts advances
first_two_lem = (refl, refl, refl, refl, refl, refl)

-- "Y with due-in 6 instead: 11, margin -1."
late_arrival_lem : (row_at late_arrival 1 ≡ offered (X 20 0) 1 5 15) × (row_at late_arrival 2 ≡ declined_by (Y 6 5) 11 0)
unfolding late_arrival accepts late
late_arrival_lem = (refl, refl)

-- "X with due-in 6, then Y with due-in 100: 12, margin -1."
late_live_lem : (row_at late_live 1 ≡ offered (X 6 0) 1 5 1) × (row_at late_live 2 ≡ declined_by (Y 100 5) 12 0)
unfolding late_live accepts late
late_live_lem = (refl, refl)

-- "as the first two but X rank 5, Y rank 0: Y out at 3, X at 6."
ranks_reversed_lem : (row_at ranks_reversed 1 ≡ offered (X 20 5) 1 5 15) × (row_at ranks_reversed 2 ≡ offered (Y 7 0) 2 7 0) × (row_at ranks_reversed 9 ≡ advanced 2 3) × (row_at ranks_reversed 22 ≡ outs (6 ∷ 3 ∷ []))
unfolding ranks_reversed accepts advances
ranks_reversed_lem = (refl, refl, refl, refl)

-- "X at 0 with due-in 20, one advance, then Y with rank 0 and due-in 7: Y starts at 2, not 1." It is in service at no station at 2, and at station 2 at 3.
starts_at_two_lem : (row_at starts_at_two 2 ≡ advanced 0 1) × (row_at starts_at_two 5 ≡ offered (Y 7 0) 2 8 0) × (row_at starts_at_two 11 ≡ serving (0 ∷ 0 ∷ []) (0 ∷ 0 ∷ [])) × (row_at starts_at_two 14 ≡ serving (0 ∷ 1 ∷ []) (0 ∷ 2 ∷ []))
unfolding starts_at_two accepts advances
starts_at_two_lem = (refl, refl, refl, refl)

-- "N = 1, cost 4: due-in 4 accepted, 3 gets 11."
one_station_lem : (row_at one_station 0 ≡ opens 1) × (row_at one_station 1 ≡ declined_by (order 3 0 (4 ∷ [])) 11 0) × (row_at one_station 3 ≡ offered (order 4 0 (4 ∷ [])) 1 4 0)
unfolding one_station accepts late
one_station_lem = (refl, refl, refl)

-- "N = 8, all costs 6,000: delay sum 48,000; due-in 0 gets 11." By 39,000 ticks, with document 02's default.
eight_stations_lem : (row_at eight_stations 0 ≡ opens 8) × (row_at eight_stations 1 ≡ declined_by (order 0 0 (replicate 8 6000)) 11 38999) × (row_at eight_stations 4 ≡ offered (order 48000 0 (replicate 8 6000)) 1 48000 0) × (row_at eight_stations 5 ≡ bounds (48000 ∷ []))
unfolding eight_stations accepts late
eight_stations_lem = (refl, refl, refl, refl)

-- Document 02, (i): A3 and A5 as X and Y; each long side; and each number, 5 before 19 before 20 before 6.
format_lengths : (length first_two_by_format ≡ 23) × (length late_by_format ≡ 11) × (length ten_formats ≡ 12) × (length format_numbers ≡ 17)
unfolding first_two_by_format late_by_format ten_formats format_numbers
format_lengths = (refl, refl, refl, refl)

abbrev offered_format : FormatOrder → ℕ → ℕ → ℕ → Row
offered_format f ticket tick margin = gives (offering_format f) 0 (record { ticket = ticket; tick = tick; margin = pos margin })

abbrev refused_format : FormatOrder → ℕ → Row
refused_format f number = gives (offering_format f) number (record { ticket = 0; tick = 0; margin = pos 0 })

first_two_by_format_lem : (row_at first_two_by_format 2 ≡ offered_format (by_format 3 20 0 two_stations) 1 5 15) × (row_at first_two_by_format 5 ≡ offered_format (by_format 5 7 5 two_stations) 2 7 0) × (row_at first_two_by_format 20 ≡ outs (5 ∷ 7 ∷ []))
unfolding first_two_by_format takes
first_two_by_format_lem = (refl, refl, refl)

format_numbers_lem : (row_at format_numbers 3 ≡ refused_format (by_format 0 60001 0 (take 31 (sheet_of (65535 ∷ 1 ∷ []) (250 ∷ 0 ∷ [])))) 5) × (row_at format_numbers 8 ≡ refused_format (by_format 257 60001 0 (sheet_of (65535 ∷ 1 ∷ []) (250 ∷ 0 ∷ []))) 19) × (row_at format_numbers 9 ≡ refused_format (by_format 10 60001 0 (sheet_of (65535 ∷ 1 ∷ []) (250 ∷ 0 ∷ []))) 20) × (row_at format_numbers 12 ≡ refused_format (by_format 3 60001 0 (sheet_of (1 ∷ 65535 ∷ []) (250 ∷ 250 ∷ []))) 6)
unfolding format_numbers refuses
format_numbers_lem = (refl, refl, refl, refl)

-- Document 02, (iii): "the workshop needs a case on each side of 9,000", as blocks, beside a live order, and by format.
default_lengths : (length sides_of_default ≡ 13) × (length sides_with_live ≡ 9) × (length sides_by_format ≡ 15)
unfolding sides_of_default sides_with_live sides_by_format
default_lengths = (refl, refl, refl)

sides_of_default_lem : (row_at sides_of_default 0 ≡ opens 2) × (row_at sides_of_default 2 ≡ offered (order 0 0 (3000 ∷ 6000 ∷ [])) 1 9000 0) × (row_at sides_of_default 6 ≡ opens 2) × (row_at sides_of_default 8 ≡ declined_by (order 0 0 (3001 ∷ 6000 ∷ [])) 11 0) × (row_at sides_of_default 9 ≡ offered (order 18000 0 (3001 ∷ 6000 ∷ [])) 1 9001 8999)
unfolding sides_of_default accepts late
sides_of_default_lem = (refl, refl, refl, refl, refl)

sides_with_live_lem : (row_at sides_with_live 1 ≡ offered (order 0 0 (6000 ∷ [])) 1 6000 3000) × (row_at sides_with_live 2 ≡ declined_by (order 0 0 (3001 ∷ [])) 11 0) × (row_at sides_with_live 3 ≡ declined_by (order 18000 0 (3001 ∷ [])) 12 0) × (row_at sides_with_live 4 ≡ offered (order 0 0 (3000 ∷ [])) 2 9000 0)
unfolding sides_with_live accepts late
sides_with_live_lem = (refl, refl, refl, refl)

abbrev of_a1 : ℕ → ℕ → FormatOrder
of_a1 due_in fixed = by_format 1 due_in 0 (sheet_of (fixed ∷ 5159 ∷ []) (1 ∷ 1 ∷ []))

sides_by_format_lem : (row_at sides_by_format 2 ≡ offered_format (of_a1 0 2159) 1 9000 0) × (row_at sides_by_format 8 ≡ gives (offering_format (of_a1 0 2160)) 11 (record { ticket = 0; tick = 0; margin = negsuc 0 })) × (row_at sides_by_format 9 ≡ offered_format (of_a1 18000 2160) 1 9001 8999) × (row_at sides_by_format 14 ≡ gives (offering_format (by_format 6 0 0 (sheet_of (replicate 8 5000) (replicate 8 1)))) 11 (record { ticket = 0; tick = 0; margin = negsuc 38999 }))
unfolding sides_by_format takes too_late
sides_by_format_lem = (refl, refl, refl, refl)

-- Document 02, (v): "two equal ranks and the later ticket due first"; equal due ticks; the rank before the due tick; the due tick and not the due-in; at the next
-- station.
tie_lengths : (length later_ticket_due_first ≡ 18) × (length equal_due_ticks ≡ 15) × (length rank_before_due_tick ≡ 17) × (length due_tick_not_due_in ≡ 21) × (length tie_at_the_next_station ≡ 19)
unfolding later_ticket_due_first equal_due_ticks rank_before_due_tick due_tick_not_due_in tie_at_the_next_station
tie_lengths = (refl, refl, refl, refl, refl)

later_ticket_due_first_lem : (row_at later_ticket_due_first 1 ≡ offered (X 20 5) 1 5 15) × (row_at later_ticket_due_first 2 ≡ offered (Y 7 5) 2 7 0) × (row_at later_ticket_due_first 11 ≡ advanced 2 3) × (row_at later_ticket_due_first 15 ≡ outs (6 ∷ 3 ∷ []))
unfolding later_ticket_due_first accepts advances
later_ticket_due_first_lem = (refl, refl, refl, refl)

equal_due_ticks_lem : (row_at equal_due_ticks 2 ≡ offered (order 20 5 (2 ∷ [])) 2 5 15) × (row_at equal_due_ticks 3 ≡ advanced 0 1) × (row_at equal_due_ticks 4 ≡ offered (order 19 5 (1 ∷ [])) 3 7 13) × (row_at equal_due_ticks 12 ≡ outs (3 ∷ 5 ∷ 6 ∷ []))
unfolding equal_due_ticks accepts advances
equal_due_ticks_lem = (refl, refl, refl, refl)

rank_before_due_tick_lem : (row_at rank_before_due_tick 1 ≡ offered (Y 7 5) 1 3 4) × (row_at rank_before_due_tick 2 ≡ offered (X 20 0) 2 7 0) × (row_at rank_before_due_tick 14 ≡ outs (7 ∷ 5 ∷ []))
unfolding rank_before_due_tick accepts advances
rank_before_due_tick_lem = (refl, refl, refl)

due_tick_not_due_in_lem : (row_at due_tick_not_due_in 2 ≡ offered (order 20 5 (1 ∷ [])) 2 5 15) × (row_at due_tick_not_due_in 5 ≡ offered (order 19 5 (2 ∷ [])) 3 9 12) × (row_at due_tick_not_due_in 6 ≡ offered (order 17 5 (3 ∷ [])) 4 12 7) × (row_at due_tick_not_due_in 18 ≡ outs (4 ∷ 8 ∷ 10 ∷ 7 ∷ []))
unfolding due_tick_not_due_in accepts advances
due_tick_not_due_in_lem = (refl, refl, refl, refl)

tie_at_the_next_station_lem : (row_at tie_at_the_next_station 3 ≡ offered (block 20 (2 ∷ 5 ∷ []) (1 ∷ 2 ∷ [])) 3 8 12) × (row_at tie_at_the_next_station 14 ≡ advanced 3 7) × (row_at tie_at_the_next_station 16 ≡ outs (5 ∷ 8 ∷ 7 ∷ []))
unfolding tie_at_the_next_station accepts advances
tie_at_the_next_station_lem = (refl, refl, refl)

abbrev side_told : ℕ → ℕ → ℕ → Row
side_told format side margin = gives (quoting_format (by_format format 2000 0 (sheet_of [] (1 ∷ [])))) 0 (record { ticket = 0; tick = side; margin = pos margin })

ten_formats_lem : (row_at ten_formats 1 ≡ side_told 1 841 1159) × (row_at ten_formats 3 ≡ side_told 3 420 1580) × (row_at ten_formats 6 ≡ side_told 6 1000 1000) × (row_at ten_formats 10 ≡ side_told 10 250 1750)
unfolding ten_formats told tells
ten_formats_lem = (refl, refl, refl, refl)
