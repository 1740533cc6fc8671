-- The worked tables hold, and so do the numbers, each with its own number: where one does not, the prover refuses the term with that number.
use mathlib.Core.Path.{◌≡◌, refl}
use mathlib.Core.Bool.{true}
use Rattle.model.specs.Lists.{all}
use Rattle.model.specs.Table.{held, EachFrom}
use Rattle.plan_model.specs.Cases.{is_printed, paper_tables, inside_tables, chapter_six, is_thesis_row, thesis_rows, largest_response, is_numbered, plan_numbers, readings}

pub paper_tables_hold : EachFrom is_printed 1 paper_tables
unfolding is_printed
paper_tables_hold = (held 1, (held 2, tt))

pub inside_tables_hold : EachFrom is_printed 1 inside_tables
unfolding is_printed
inside_tables_hold = (held 1, (held 2, (held 3, (held 4, tt))))

pub chapter_six_holds : is_printed chapter_six ≡ true
unfolding is_printed
chapter_six_holds = refl {a = true}

pub thesis_rows_hold : all is_thesis_row thesis_rows ≡ true
unfolding is_thesis_row all
thesis_rows_hold = refl {a = true}

pub largest_response_holds : is_printed largest_response ≡ true
unfolding is_printed largest_response
largest_response_holds = refl {a = true}

pub plan_numbers_hold : EachFrom is_numbered 1 plan_numbers
unfolding is_numbered
plan_numbers_hold = (held 1, (held 2, (held 3, (held 4, (held 5, (held 6, (held 7, (held 8, tt))))))))

pub readings_hold : EachFrom is_printed 1 readings
unfolding is_printed
readings_hold = (held 1, (held 2, (held 3, (held 4, (held 5, (held 6, (held 7, (held 8, (held 9, (held 10, (held 11, (held 12, (held 13, (held 14, (held 15, (held 16, tt))))))))))))))))
