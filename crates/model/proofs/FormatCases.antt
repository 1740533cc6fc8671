-- The worked cases of orders by format hold, by computation, case by case and row by row; and the table of long sides has the rule of ISO 216.
use mathlib.Core.Path.{refl}
use Rattle.model.specs.Formats.{halving, LongSidesHalve}
use Rattle.model.specs.Table.{held, Hold, AllHold}
use Rattle.model.specs.Cases.{X, accepts, advances}
use Rattle.model.specs.FormatCases.{sheet_of, by_format, takes, too_late, refuses, tells, two_stations, first_two_by_format, late_by_format, told, ten_formats, format_numbers, format_cases}
use Rattle.model.proofs.FirstCase.{after}
use Rattle.model.proofs.DefaultCases.{sides_by_format_hold}

first_two_by_format_hold : Hold first_two_by_format
unfolding Hold two_stations by_format takes tells advances first_two_by_format
first_two_by_format_hold = after sides_by_format_hold (held 1, (held 2, (held 3, (held 4, (held 5, (held 6, (held 7, (held 8, (held 9, (held 10, (held 11, (held 12, (held 13, (held 14, (held 15, (held 16, (held 17, (held 18, (held 19, (held 20, (held 21, (held 22, (held 23, tt)))))))))))))))))))))))

late_by_format_hold : Hold late_by_format
unfolding Hold X accepts two_stations by_format takes too_late late_by_format
late_by_format_hold = after first_two_by_format_hold (held 1, (held 2, (held 3, (held 4, (held 5, (held 6, (held 7, (held 8, (held 9, (held 10, (held 11, tt)))))))))))

ten_formats_hold : Hold ten_formats
unfolding Hold sheet_of by_format tells told ten_formats
ten_formats_hold = after late_by_format_hold (held 1, (held 2, (held 3, (held 4, (held 5, (held 6, (held 7, (held 8, (held 9, (held 10, (held 11, (held 12, tt))))))))))))

pub format_numbers_hold : Hold format_numbers
unfolding Hold sheet_of two_stations by_format takes refuses format_numbers
format_numbers_hold = after ten_formats_hold (held 1, (held 2, (held 3, (held 4, (held 5, (held 6, (held 7, (held 8, (held 9, (held 10, (held 11, (held 12, (held 13, (held 14, (held 15, (held 16, (held 17, tt)))))))))))))))))

pub format_cases_hold : AllHold format_cases
unfolding format_cases
format_cases_hold = (first_two_by_format_hold, (late_by_format_hold, (ten_formats_hold, (format_numbers_hold, tt))))

pub long_sides_halve : LongSidesHalve
unfolding halving
long_sides_halve = (refl, refl)
