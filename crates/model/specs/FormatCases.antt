-- Worked cases of document 02, (i), "Order by paper format", by hand: the long side from the table, divided by the speed and rounded up, and the fixed ticks
-- added; the rest as in document 01. The second simulator gives the same.
use Rattle.std.specs.Prelude.{List, [], ◌∷◌, ◌++◌, ℕ, ◌+◌, ◌-◌, take, replicate, ℤ, pos}
use Rattle.model.specs.Layout.{image_size, records_at, record_size, ranks_at, reply_size}
use Rattle.model.specs.Questions.{zeros}
use Rattle.model.specs.Formats.{FormatOrder}
use Rattle.model.specs.Calls.{quoting_format, offering_format}
use Rattle.model.specs.Table.{Row, opens, gives, ill_sized, holding, stations, serving, outs, bounds, dues, in_step}
use Rattle.model.specs.Cases.{halves, X, minus, accepts, advances}

-- A station sheet: the fixed ticks, and the speeds; those not named are zero.
unfoldable pub sheet_of : List ℕ → List ℕ → List ℕ
unfolding halves
sheet_of fixed speeds = halves fixed ++ halves speeds

unfoldable pub by_format : ℕ → ℕ → ℕ → List ℕ → FormatOrder
by_format format due_in rank sheet = record { format = format; due_in = due_in; rank = rank; sheet = sheet }

-- As `accepts`, `late`, `declines` and `quotes` of a block.
unfoldable pub takes : FormatOrder → ℕ → ℕ → ℤ → Row
takes f ticket tick margin = gives (offering_format f) 0 (record { ticket = ticket; tick = tick; margin = margin })

unfoldable pub too_late : FormatOrder → ℕ → ℤ → Row
too_late f number margin = gives (offering_format f) number (record { ticket = 0; tick = 0; margin = margin })

unfoldable pub refuses : FormatOrder → ℕ → Row
refuses f number = gives (offering_format f) number zeros

unfoldable pub tells : FormatOrder → ℕ → ℤ → Row
tells f tick margin = gives (quoting_format f) 0 (record { ticket = 0; tick = tick; margin = margin })

-- Fixed ticks 0 and 1, and 250 mm per tick at both stations. A3 has a long side of 420 mm: 420 / 250 is 2 rounded up, so its costs are 0 + 2 and 1 + 2, those of
-- document 01's X. A5 has 210 mm, and costs 0 + 1 and 1 + 1, those of Y.
unfoldable pub two_stations : List ℕ
unfolding sheet_of
two_stations = sheet_of (0 ∷ 1 ∷ []) (250 ∷ 250 ∷ [])

-- Document 01's first two examples by format: "X, due-in 20, at 0: ticket 1, tick 5, margin 15", "then Y at 0, due-in 7: ticket 2, tick 7, margin 0. X is out at
-- 5, Y at 7." The record has the rank at stations 1 and 2, costs 2 and 3, and zeros beyond.
unfoldable pub first_two_by_format : List Row
unfolding by_format
first_two_by_format =
    opens 2 ∷ tells (by_format 3 20 0 two_stations) 5 (pos 15) ∷ takes (by_format 3 20 0 two_stations) 1 5 (pos 15) ∷ in_step ∷ bounds (5 ∷ [])
    ∷ takes (by_format 5 7 5 two_stations) 2 7 (pos 0) ∷ in_step ∷ bounds (7 ∷ 7 ∷ []) ∷ dues (20 ∷ 7 ∷ [])
    ∷ holding (records_at + ranks_at) (replicate 8 0 ++ (2 ∷ 0 ∷ 3 ∷ replicate 13 0))
    ∷ holding (records_at + record_size + ranks_at) (5 ∷ 5 ∷ replicate 6 0 ++ (1 ∷ 0 ∷ 2 ∷ replicate 13 0))
    ∷ advances 0 1 ∷ advances 0 2 ∷ advances 0 3 ∷ stations (2 ∷ 2 ∷ []) ∷ serving (0 ∷ 1 ∷ []) (0 ∷ 2 ∷ [])
    ∷ advances 0 4 ∷ advances 1 5 ∷ advances 0 6 ∷ advances 2 7 ∷ outs (5 ∷ 7 ∷ []) ∷ bounds (7 ∷ 7 ∷ []) ∷ in_step
    ∷ []

-- Orders by format and as blocks delay each other as any orders do: B3 (500 / 250 is 2) is X as well. With due-in 6 in a cabinet of its own it is accepted,
-- A5 with due-in 100 would make it late, and with due-in 6 would be late itself; 5 is the smallest due-in that X can have.
unfoldable pub late_by_format : List Row
unfolding by_format
late_by_format =
    opens 2 ∷ too_late (by_format 8 4 0 two_stations) 11 (minus 1) ∷ takes (by_format 8 6 0 two_stations) 1 5 (pos 1)
    ∷ too_late (by_format 5 100 5 two_stations) 12 (minus 1) ∷ too_late (by_format 5 6 5 two_stations) 11 (minus 1) ∷ in_step ∷ bounds (5 ∷ [])
    ∷ opens 2 ∷ accepts (X 20 0) 1 5 (pos 15) ∷ takes (by_format 5 7 5 two_stations) 2 7 (pos 0) ∷ in_step
    ∷ []

-- One station, no fixed ticks, 1 mm per tick: the cost is the long side, and so is the delay bound. And 0 stands for the due-in of 9,000.
unfoldable pub told : ℕ → ℕ → Row
unfolding by_format sheet_of tells
told format side = tells (by_format format 2000 0 (sheet_of [] (1 ∷ []))) side (pos (2000 - side))

unfoldable pub ten_formats : List Row
unfolding told
ten_formats =
    opens 1 ∷ told 1 841 ∷ told 2 594 ∷ told 3 420 ∷ told 4 297 ∷ told 5 210 ∷ told 6 1000 ∷ told 7 707 ∷ told 8 500 ∷ told 9 353 ∷ told 10 250
    ∷ tells (by_format 1 0 0 (sheet_of [] (1 ∷ []))) 841 (pos 8159)
    ∷ []

-- The numbers in their order, each where those after it fit as well: 5 for a sheet of 31 bytes and of 33, 19 for formats 0, 11 and 257, 20 for a speed of 0, 6 for
-- a cost of 6,001, and for one of 65,535 + 2, which two bytes would hold as 1; 7. A cost of 6,000 is in range. The sheet beyond station N is not read.
unfoldable pub format_numbers : List Row
unfolding by_format sheet_of two_stations
format_numbers =
    let standing = sheet_of (65535 ∷ 1 ∷ []) (250 ∷ 0 ∷ []) in
    opens 2
    ∷ ill_sized (reply_size - 1) image_size (offering_format (by_format 0 60001 0 [])) 1 ∷ ill_sized reply_size (image_size - 1) (quoting_format (by_format 0 60001 0 [])) 2
    ∷ refuses (by_format 0 60001 0 (take 31 standing)) 5 ∷ refuses (by_format 0 60001 0 (standing ++ (0 ∷ []))) 5 ∷ refuses (by_format 3 20 0 []) 5
    ∷ refuses (by_format 0 60001 0 standing) 19 ∷ refuses (by_format 11 60001 0 standing) 19 ∷ refuses (by_format 257 60001 0 standing) 19
    ∷ refuses (by_format 10 60001 0 standing) 20 ∷ refuses (by_format 1 60001 0 (sheet_of (0 ∷ 1 ∷ []) (0 ∷ 250 ∷ []))) 20
    ∷ refuses (by_format 3 60001 0 (sheet_of (5999 ∷ 1 ∷ []) (250 ∷ 250 ∷ []))) 6 ∷ refuses (by_format 3 60001 0 (sheet_of (1 ∷ 65535 ∷ []) (250 ∷ 250 ∷ []))) 6
    ∷ refuses (by_format 3 60001 0 two_stations) 7
    ∷ gives (quoting_format (by_format 3 60000 0 (sheet_of (5998 ∷ 0 ∷ []) (250 ∷ 65535 ∷ [])))) 0 (record { ticket = 0; tick = 12000; margin = pos 48000 })
    ∷ takes (by_format 3 20 255 (sheet_of (0 ∷ 1 ∷ 65535 ∷ []) (250 ∷ 250 ∷ 0 ∷ 1 ∷ []))) 1 5 (pos 15) ∷ in_step
    ∷ []

unfoldable pub format_cases : List (List Row)
unfolding takes too_late refuses tells first_two_by_format late_by_format ten_formats format_numbers
format_cases = first_two_by_format ∷ late_by_format ∷ ten_formats ∷ format_numbers ∷ []
