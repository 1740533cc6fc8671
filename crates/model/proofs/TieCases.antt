-- The worked cases of ties hold, by computation, case by case and row by row.
use Rattle.model.specs.Table.{held, Hold, AllHold}
use Rattle.model.specs.Cases.{block, order, X, Y, accepts, advances}
use Rattle.model.specs.TieCases.{later_ticket_due_first, equal_due_ticks, rank_before_due_tick, due_tick_not_due_in, tie_at_the_next_station, tie_cases}
use Rattle.model.proofs.FirstCase.{after, first_two_hold}

later_ticket_due_first_hold : Hold later_ticket_due_first
unfolding Hold X Y accepts advances later_ticket_due_first
later_ticket_due_first_hold = after first_two_hold (held 1, (held 2, (held 3, (held 4, (held 5, (held 6, (held 7, (held 8, (held 9, (held 10, (held 11, (held 12, (held 13, (held 14, (held 15, (held 16, (held 17, (held 18, tt))))))))))))))))))

equal_due_ticks_hold : Hold equal_due_ticks
unfolding Hold order accepts advances equal_due_ticks
equal_due_ticks_hold = after later_ticket_due_first_hold (held 1, (held 2, (held 3, (held 4, (held 5, (held 6, (held 7, (held 8, (held 9, (held 10, (held 11, (held 12, (held 13, (held 14, (held 15, tt)))))))))))))))

rank_before_due_tick_hold : Hold rank_before_due_tick
unfolding Hold X Y accepts advances rank_before_due_tick
rank_before_due_tick_hold = after equal_due_ticks_hold (held 1, (held 2, (held 3, (held 4, (held 5, (held 6, (held 7, (held 8, (held 9, (held 10, (held 11, (held 12, (held 13, (held 14, (held 15, (held 16, (held 17, tt)))))))))))))))))

due_tick_not_due_in_hold : Hold due_tick_not_due_in
unfolding Hold order accepts advances due_tick_not_due_in
due_tick_not_due_in_hold = after rank_before_due_tick_hold (held 1, (held 2, (held 3, (held 4, (held 5, (held 6, (held 7, (held 8, (held 9, (held 10, (held 11, (held 12, (held 13, (held 14, (held 15, (held 16, (held 17, (held 18, (held 19, (held 20, (held 21, tt)))))))))))))))))))))

pub tie_at_the_next_station_hold : Hold tie_at_the_next_station
unfolding Hold block accepts advances tie_at_the_next_station
tie_at_the_next_station_hold = after due_tick_not_due_in_hold (held 1, (held 2, (held 3, (held 4, (held 5, (held 6, (held 7, (held 8, (held 9, (held 10, (held 11, (held 12, (held 13, (held 14, (held 15, (held 16, (held 17, (held 18, (held 19, tt)))))))))))))))))))

pub tie_cases_hold : AllHold tie_cases
unfolding tie_cases
tie_cases_hold = (later_ticket_due_first_hold, (equal_due_ticks_hold, (rank_before_due_tick_hold, (due_tick_not_due_in_hold, (tie_at_the_next_station_hold, tt)))))
