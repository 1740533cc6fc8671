-- The worked cases hold, by computation, case by case and row by row: where a row does not hold, the prover refuses the term with its number.
use mathlib.Core.Path.{◌≡◌, refl}
use mathlib.Core.List.{List, [], ◌∷◌, ◌++◌}
use Prim.Native.Nat.{ℕ}
use Rattle.model.specs.Lists.{concat}
use Rattle.model.specs.Calls.{opening, perform}
use Rattle.model.specs.Runs.{Lent, Run, started, outcome, after_call}
use Rattle.model.specs.Table.{Row, opened, onward, held, Hold, AllHold}
use Rattle.model.proofs.FirstCase.{after, first_two_hold}
use Rattle.model.proofs.FormatCases.{format_numbers_hold}
use Rattle.model.specs.Cases.{block, order, X, Y, accepts, late, declines, quotes, advances, late_arrival, late_live, ranks_reversed, starts_at_two, one_station, eight_stations, paper_cases, byte_block, bytes_in_order, equal_ranks, ranks_of_the_station, no_preemption, quotes_only, out_still_counts, no_start_skipped, default_in_use, smallest_of_many, both_late, one_tick, sizes_and_stations, order_blocks, last_due_tick, last_clock, last_ticket_given, record_bytes, thirty_two_live, all_stations_at_once, unmarks, spoils, bears, sound_images, tick_cases, offer_cases, image_cases, further_cases}

late_arrival_hold : Hold late_arrival
unfolding Hold X Y accepts late late_arrival
late_arrival_hold = after format_numbers_hold (held 1, (held 2, (held 3, (held 4, tt))))

late_live_hold : Hold late_live
unfolding Hold X Y accepts late late_live
late_live_hold = after late_arrival_hold (held 1, (held 2, (held 3, (held 4, tt))))

ranks_reversed_hold : Hold ranks_reversed
unfolding Hold X Y accepts advances ranks_reversed
ranks_reversed_hold = after late_live_hold (held 1, (held 2, (held 3, (held 4, (held 5, (held 6, (held 7, (held 8, (held 9, (held 10, (held 11, (held 12, (held 13, (held 14, (held 15, (held 16, (held 17, (held 18, (held 19, (held 20, (held 21, (held 22, (held 23, (held 24, (held 25, tt)))))))))))))))))))))))))

starts_at_two_hold : Hold starts_at_two
unfolding Hold X Y accepts advances starts_at_two
starts_at_two_hold = after ranks_reversed_hold (held 1, (held 2, (held 3, (held 4, (held 5, (held 6, (held 7, (held 8, (held 9, (held 10, (held 11, (held 12, (held 13, (held 14, (held 15, (held 16, (held 17, (held 18, (held 19, (held 20, (held 21, (held 22, (held 23, (held 24, (held 25, (held 26, (held 27, (held 28, tt))))))))))))))))))))))))))))

one_station_hold : Hold one_station
unfolding Hold order accepts late advances one_station
one_station_hold = after starts_at_two_hold (held 1, (held 2, (held 3, (held 4, (held 5, (held 6, (held 7, (held 8, (held 9, (held 10, (held 11, (held 12, tt))))))))))))

eight_stations_hold : Hold eight_stations
unfolding Hold order accepts late eight_stations
eight_stations_hold = after one_station_hold (held 1, (held 2, (held 3, (held 4, (held 5, (held 6, (held 7, tt)))))))

pub paper_cases_hold : AllHold paper_cases
unfolding paper_cases
paper_cases_hold = (first_two_hold, (late_arrival_hold, (late_live_hold, (ranks_reversed_hold, (starts_at_two_hold, (one_station_hold, (eight_stations_hold, tt)))))))

equal_ranks_hold : Hold equal_ranks
unfolding Hold order accepts advances equal_ranks
equal_ranks_hold = after eight_stations_hold (held 1, (held 2, (held 3, (held 4, (held 5, (held 6, (held 7, (held 8, (held 9, (held 10, (held 11, (held 12, (held 13, (held 14, (held 15, (held 16, (held 17, (held 18, (held 19, (held 20, tt))))))))))))))))))))

ranks_of_the_station_hold : Hold ranks_of_the_station
unfolding Hold block accepts advances ranks_of_the_station
ranks_of_the_station_hold = after equal_ranks_hold (held 1, (held 2, (held 3, (held 4, (held 5, (held 6, (held 7, (held 8, (held 9, (held 10, (held 11, (held 12, (held 13, (held 14, (held 15, (held 16, (held 17, (held 18, (held 19, tt)))))))))))))))))))

no_preemption_hold : Hold no_preemption
unfolding Hold X Y accepts advances no_preemption
no_preemption_hold = after ranks_of_the_station_hold (held 1, (held 2, (held 3, (held 4, (held 5, (held 6, (held 7, (held 8, (held 9, (held 10, (held 11, (held 12, (held 13, (held 14, (held 15, (held 16, (held 17, (held 18, (held 19, tt)))))))))))))))))))

out_still_counts_hold : Hold out_still_counts
unfolding Hold order X Y accepts late quotes advances out_still_counts
out_still_counts_hold = after no_preemption_hold (held 1, (held 2, (held 3, (held 4, (held 5, (held 6, (held 7, (held 8, (held 9, (held 10, (held 11, (held 12, (held 13, (held 14, (held 15, (held 16, (held 17, (held 18, (held 19, (held 20, (held 21, (held 22, (held 23, (held 24, (held 25, (held 26, (held 27, (held 28, (held 29, (held 30, (held 31, tt)))))))))))))))))))))))))))))))

no_start_skipped_hold : Hold no_start_skipped
unfolding Hold order accepts advances no_start_skipped
no_start_skipped_hold = after out_still_counts_hold (held 1, (held 2, (held 3, (held 4, (held 5, (held 6, (held 7, (held 8, (held 9, (held 10, (held 11, (held 12, (held 13, (held 14, (held 15, (held 16, (held 17, (held 18, (held 19, (held 20, (held 21, (held 22, (held 23, (held 24, (held 25, (held 26, tt))))))))))))))))))))))))))

one_tick_hold : Hold one_tick
unfolding Hold order accepts advances one_tick
one_tick_hold = after no_start_skipped_hold (held 1, (held 2, (held 3, (held 4, (held 5, (held 6, (held 7, (held 8, (held 9, tt)))))))))

all_stations_at_once_hold : Hold all_stations_at_once
unfolding Hold concat advances record_bytes all_stations_at_once
all_stations_at_once_hold = after one_tick_hold (held 1, (held 2, (held 3, (held 4, (held 5, (held 6, (held 7, (held 8, (held 9, (held 10, (held 11, tt)))))))))))

pub tick_cases_hold : AllHold tick_cases
unfolding tick_cases
tick_cases_hold = (equal_ranks_hold, (ranks_of_the_station_hold, (no_preemption_hold, (out_still_counts_hold, (no_start_skipped_hold, (one_tick_hold, (all_stations_at_once_hold, tt)))))))

bytes_in_order_hold : Hold bytes_in_order
unfolding Hold byte_block bytes_in_order
bytes_in_order_hold = after all_stations_at_once_hold (held 1, (held 2, (held 3, (held 4, (held 5, (held 6, (held 7, (held 8, (held 9, (held 10, tt))))))))))

sizes_and_stations_hold : Hold sizes_and_stations
unfolding Hold X Y accepts advances sizes_and_stations
sizes_and_stations_hold = after bytes_in_order_hold (held 1, (held 2, (held 3, (held 4, (held 5, (held 6, (held 7, (held 8, (held 9, (held 10, (held 11, (held 12, (held 13, (held 14, (held 15, (held 16, (held 17, (held 18, (held 19, (held 20, (held 21, (held 22, (held 23, (held 24, (held 25, (held 26, (held 27, (held 28, tt))))))))))))))))))))))))))))

last_clock_hold : Hold last_clock
unfolding Hold X declines advances last_clock
last_clock_hold = after sizes_and_stations_hold (held 1, (held 2, (held 3, (held 4, (held 5, (held 6, (held 7, (held 8, tt))))))))

sound_images_hold : Hold sound_images
unfolding Hold order X Y accepts advances unmarks spoils bears sound_images
sound_images_hold = after last_clock_hold (held 1, (held 2, (held 3, (held 4, (held 5, (held 6, (held 7, (held 8, (held 9, (held 10, (held 11, (held 12, (held 13, (held 14, (held 15, (held 16, (held 17, (held 18, (held 19, (held 20, (held 21, (held 22, (held 23, (held 24, (held 25, (held 26, (held 27, (held 28, (held 29, (held 30, (held 31, (held 32, (held 33, (held 34, (held 35, (held 36, (held 37, (held 38, (held 39, (held 40, (held 41, (held 42, (held 43, (held 44, (held 45, (held 46, (held 47, (held 48, (held 49, (held 50, (held 51, (held 52, (held 53, (held 54, (held 55, (held 56, (held 57, (held 58, (held 59, (held 60, (held 61, (held 62, (held 63, (held 64, (held 65, (held 66, (held 67, (held 68, (held 69, (held 70, (held 71, (held 72, tt))))))))))))))))))))))))))))))))))))))))))))))))))))))))))))))))))))))))

pub image_cases_hold : AllHold image_cases
unfolding image_cases
image_cases_hold = (bytes_in_order_hold, (sizes_and_stations_hold, (last_clock_hold, (sound_images_hold, tt))))

quotes_only_hold : Hold quotes_only
unfolding Hold order X Y accepts quotes quotes_only
quotes_only_hold = after sound_images_hold (held 1, (held 2, (held 3, (held 4, (held 5, (held 6, (held 7, (held 8, (held 9, (held 10, tt))))))))))

default_in_use_hold : Hold default_in_use
unfolding Hold X Y accepts advances default_in_use
default_in_use_hold = after quotes_only_hold (held 1, (held 2, (held 3, (held 4, (held 5, (held 6, tt))))))

smallest_of_many_hold : Hold smallest_of_many
unfolding Hold order accepts late smallest_of_many
smallest_of_many_hold = after default_in_use_hold (held 1, (held 2, (held 3, (held 4, (held 5, (held 6, (held 7, (held 8, (held 9, (held 10, tt))))))))))

both_late_hold : Hold both_late
unfolding Hold X Y accepts late both_late
both_late_hold = after smallest_of_many_hold (held 1, (held 2, (held 3, (held 4, tt))))

order_blocks_hold : Hold order_blocks
unfolding Hold block order X declines quotes order_blocks
order_blocks_hold = after both_late_hold (held 1, (held 2, (held 3, (held 4, (held 5, (held 6, (held 7, (held 8, (held 9, (held 10, (held 11, (held 12, (held 13, (held 14, (held 15, (held 16, (held 17, (held 18, (held 19, (held 20, tt))))))))))))))))))))

last_due_tick_hold : Hold last_due_tick
unfolding Hold X accepts declines quotes advances last_due_tick
last_due_tick_hold = after order_blocks_hold (held 1, (held 2, (held 3, (held 4, (held 5, (held 6, (held 7, (held 8, (held 9, (held 10, (held 11, (held 12, (held 13, (held 14, tt))))))))))))))

last_ticket_given_hold : Hold last_ticket_given
unfolding Hold X Y accepts declines advances last_ticket_given
last_ticket_given_hold = after last_due_tick_hold (held 1, (held 2, (held 3, (held 4, (held 5, (held 6, (held 7, (held 8, (held 9, (held 10, (held 11, tt)))))))))))

thirty_two_live_hold : Hold thirty_two_live
unfolding Hold concat order accepts declines advances record_bytes thirty_two_live
thirty_two_live_hold = after last_ticket_given_hold (held 1, (held 2, (held 3, (held 4, (held 5, (held 6, (held 7, (held 8, (held 9, tt)))))))))

pub offer_cases_hold : AllHold offer_cases
unfolding offer_cases
offer_cases_hold = (quotes_only_hold, (default_in_use_hold, (smallest_of_many_hold, (both_late_hold, (order_blocks_hold, (last_due_tick_hold, (last_ticket_given_hold, (thirty_two_live_hold, tt))))))))

-- Tables that hold, one after the other, are a table that holds.
pub all_hold_append : (a b : List (List Row)) → AllHold a → AllHold b → AllHold (a ++ b)
all_hold_append [] b p q = q
all_hold_append (rows ∷ a) b p q = (p.0, all_hold_append a b p.1 q)

pub further_cases_hold : AllHold further_cases
unfolding further_cases
further_cases_hold = all_hold_append (tick_cases ++ offer_cases) image_cases (all_hold_append tick_cases offer_cases tick_cases_hold offer_cases_hold) image_cases_hold

-- The table begins and goes on as demand 3 does.
pub opened_is_started : (image : List ℕ) (n : ℕ) (reply : List ℕ) → opened n (perform (opening n) image reply) ≡ started image n reply
unfolding opened perform started
opened_is_started image n reply = refl

pub onward_is_after_call : (run : Run) (lent : Lent) → onward run lent.call (outcome run lent) ≡ after_call run lent
unfolding onward after_call
onward_is_after_call run lent = refl
