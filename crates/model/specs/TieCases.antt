-- Worked cases of document 02, (v), "Nearer due time breaks ties", by hand. The second simulator gives the same.
use Rattle.std.specs.Prelude.{List, [], ◌∷◌, pos}
use Rattle.model.specs.Table.{Row, opens, stations, serving, outs, bounds, dues, in_step}
use Rattle.model.specs.Cases.{block, order, X, Y, accepts, advances}

-- Document 02, (v): "A case with two equal ranks and the later ticket due first": X and Y of document 01 with rank 5 each. Y is due at 7, X at 20: Y goes
-- first at station 1, and is out at 3, X at 6.
unfoldable pub later_ticket_due_first : List Row
later_ticket_due_first =
    opens 2 ∷ accepts (X 20 5) 1 5 (pos 15) ∷ accepts (Y 7 5) 2 7 (pos 0) ∷ dues (20 ∷ 7 ∷ [])
    ∷ advances 0 1 ∷ stations (1 ∷ 2 ∷ []) ∷ serving (0 ∷ 0 ∷ []) (0 ∷ 0 ∷ []) ∷ in_step
    ∷ advances 0 2 ∷ stations (1 ∷ 2 ∷ []) ∷ serving (1 ∷ 2 ∷ []) (1 ∷ 1 ∷ [])
    ∷ advances 2 3 ∷ advances 0 4 ∷ advances 0 5 ∷ advances 1 6 ∷ outs (6 ∷ 3 ∷ []) ∷ bounds (7 ∷ 7 ∷ []) ∷ in_step
    ∷ []

-- Equal ranks and equal due ticks go by ticket, here where the larger ticket has the smaller due-in: while ticket 1 is in service, 2 (accepted at 0, due-in
-- 20) and 3 (accepted at 1, due-in 19) wait, both due at 20.
unfoldable pub equal_due_ticks : List Row
equal_due_ticks =
    opens 1 ∷ accepts (order 20 0 (3 ∷ [])) 1 3 (pos 17) ∷ accepts (order 20 5 (2 ∷ [])) 2 5 (pos 15)
    ∷ advances 0 1 ∷ accepts (order 19 5 (1 ∷ [])) 3 7 (pos 13) ∷ dues (20 ∷ 20 ∷ 20 ∷ [])
    ∷ advances 0 2 ∷ advances 1 3 ∷ advances 0 4 ∷ serving (2 ∷ []) (1 ∷ [])
    ∷ advances 2 5 ∷ advances 3 6 ∷ outs (3 ∷ 5 ∷ 6 ∷ []) ∷ bounds (6 ∷ 6 ∷ 7 ∷ []) ∷ in_step
    ∷ []

-- The rank goes before the due tick, and before the ticket: X has rank 0 and goes first, though Y is due at 7 and has ticket 1. Y is out at its due tick.
unfoldable pub rank_before_due_tick : List Row
rank_before_due_tick =
    opens 2 ∷ accepts (Y 7 5) 1 3 (pos 4) ∷ accepts (X 20 0) 2 7 (pos 0) ∷ dues (7 ∷ 20 ∷ [])
    ∷ advances 0 1 ∷ stations (1 ∷ 1 ∷ []) ∷ serving (2 ∷ 0 ∷ []) (1 ∷ 0 ∷ [])
    ∷ advances 0 2 ∷ stations (1 ∷ 2 ∷ []) ∷ advances 0 3 ∷ advances 0 4 ∷ advances 2 5 ∷ advances 0 6 ∷ advances 1 7
    ∷ outs (7 ∷ 5 ∷ []) ∷ bounds (7 ∷ 7 ∷ []) ∷ in_step
    ∷ []

-- The due tick decides, and neither the due-in nor the ticket: while ticket 1 is in service, 2 (accepted at 0, due-in 20), 3 and 4 (accepted at 2, due-in 19
-- and 17) wait, due at 20, 21 and 19. They go as 4, 2, 3; by due-in it would be 4, 3, 2.
unfoldable pub due_tick_not_due_in : List Row
due_tick_not_due_in =
    opens 1 ∷ accepts (order 30 0 (4 ∷ [])) 1 4 (pos 26) ∷ accepts (order 20 5 (1 ∷ [])) 2 5 (pos 15)
    ∷ advances 0 1 ∷ advances 0 2 ∷ accepts (order 19 5 (2 ∷ [])) 3 9 (pos 12) ∷ accepts (order 17 5 (3 ∷ [])) 4 12 (pos 7)
    ∷ dues (30 ∷ 20 ∷ 21 ∷ 19 ∷ [])
    ∷ advances 0 3 ∷ advances 1 4 ∷ advances 0 5 ∷ serving (4 ∷ []) (2 ∷ []) ∷ advances 0 6 ∷ advances 4 7
    ∷ advances 2 8 ∷ advances 0 9 ∷ serving (3 ∷ []) (1 ∷ []) ∷ advances 3 10 ∷ outs (4 ∷ 8 ∷ 10 ∷ 7 ∷ []) ∷ bounds (10 ∷ 10 ∷ 12 ∷ 12 ∷ []) ∷ in_step
    ∷ []

-- Each station by its own ranks: at station 1 ticket 2 goes before 3 by its rank there, and at station 2, where their ranks are equal, 3 goes before 2 by its
-- due tick. Ticket 2 is out at its bound.
unfoldable pub tie_at_the_next_station : List Row
tie_at_the_next_station =
    opens 2 ∷ accepts (block 30 (0 ∷ 0 ∷ []) (1 ∷ 4 ∷ [])) 1 5 (pos 25) ∷ accepts (block 30 (1 ∷ 5 ∷ []) (1 ∷ 1 ∷ [])) 2 6 (pos 24)
    ∷ accepts (block 20 (2 ∷ 5 ∷ []) (1 ∷ 2 ∷ [])) 3 8 (pos 12)
    ∷ advances 0 1 ∷ advances 0 2 ∷ stations (2 ∷ 2 ∷ 1 ∷ []) ∷ advances 0 3 ∷ stations (2 ∷ 2 ∷ 2 ∷ []) ∷ serving (0 ∷ 1 ∷ []) (0 ∷ 2 ∷ [])
    ∷ advances 0 4 ∷ advances 1 5 ∷ advances 0 6 ∷ serving (0 ∷ 3 ∷ []) (0 ∷ 1 ∷ []) ∷ advances 3 7 ∷ advances 2 8
    ∷ outs (5 ∷ 8 ∷ 7 ∷ []) ∷ bounds (8 ∷ 8 ∷ 8 ∷ []) ∷ in_step
    ∷ []

unfoldable pub tie_cases : List (List Row)
unfolding block order X Y accepts advances later_ticket_due_first equal_due_ticks rank_before_due_tick due_tick_not_due_in tie_at_the_next_station
tie_cases = later_ticket_due_first ∷ equal_due_ticks ∷ rank_before_due_tick ∷ due_tick_not_due_in ∷ tie_at_the_next_station ∷ []
