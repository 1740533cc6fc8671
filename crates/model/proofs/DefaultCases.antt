-- The worked cases of the default due-in hold, by computation, case by case and row by row.
use Rattle.model.specs.Table.{held, Hold, AllHold}
use Rattle.model.specs.Cases.{order, accepts, late, quotes}
use Rattle.model.specs.FormatCases.{sheet_of, by_format, takes, too_late, tells}
use Rattle.model.specs.DefaultCases.{sides_of_default, sides_with_live, sides_by_format, default_cases}
use Rattle.model.proofs.FirstCase.{after}
use Rattle.model.proofs.TieCases.{tie_at_the_next_station_hold}

sides_of_default_hold : Hold sides_of_default
unfolding Hold order accepts late quotes sides_of_default
sides_of_default_hold = after tie_at_the_next_station_hold (held 1, (held 2, (held 3, (held 4, (held 5, (held 6, (held 7, (held 8, (held 9, (held 10, (held 11, (held 12, (held 13, tt)))))))))))))

sides_with_live_hold : Hold sides_with_live
unfolding Hold order accepts late sides_with_live
sides_with_live_hold = after sides_of_default_hold (held 1, (held 2, (held 3, (held 4, (held 5, (held 6, (held 7, (held 8, (held 9, tt)))))))))

pub sides_by_format_hold : Hold sides_by_format
unfolding Hold sheet_of by_format takes too_late tells sides_by_format
sides_by_format_hold = after sides_with_live_hold (held 1, (held 2, (held 3, (held 4, (held 5, (held 6, (held 7, (held 8, (held 9, (held 10, (held 11, (held 12, (held 13, (held 14, (held 15, tt)))))))))))))))

pub default_cases_hold : AllHold default_cases
unfolding default_cases
default_cases_hold = (sides_of_default_hold, (sides_with_live_hold, (sides_by_format_hold, tt)))
