-- Worked logs: what the rerun prints for a log, whole; and the last column for so many busy ticks of so many.
use Rattle.std.specs.Prelude.{Bool, List, [], ◌∷◌, ◌++◌, ℕ, replicate, eqb}
use Rattle.model.specs.Lists.{concat, same}
use Rattle.model.specs.Admission.{block_bytes}
use Rattle.model.specs.Table.{read_row}
use Rattle.text.specs.Ascii.{ascii}
use Rattle.text.specs.Decimal.{digits, decimal}
use Rattle.text.specs.Number.{is_decimal, value_of}
use Rattle.text.specs.Parts.{parts, last_of, lines_of, lines}
use Rattle.log_model.specs.Lines.{fits, fit_all, has_form, values_of, stations_of, is_stations, order_fields, is_offer, is_advance, offered_by, line_of, call_of}
use Rattle.log_model.specs.Rounding.{nearest, thousandths}
use Rattle.log_model.specs.Rerun.{agrees, first_difference, differs_at, ticks_of, busy_ticks}
use Rattle.log_model.specs.Output.{is_call, formed, unended, first_false, refused_at, stations_in, calls_in, refused_line, differs_line, station_line, same_lines, busy_of, result_of, rerun_output}

-- For this log this is printed, and nothing else.
infix 4 ◌reruns◌
pub data Rerunning : Type 0 where
  ◌reruns◌ : List ℕ → List ℕ → Rerunning

-- The long line names all that the output is computed with, so that a proof unfolds `is_rerun` alone; `read_row` names those of the calls.
unfoldable pub is_rerun : Rerunning → Bool
unfolding read_row concat block_bytes digits decimal is_decimal value_of parts last_of lines_of lines fits fit_all has_form values_of stations_of is_stations order_fields is_offer is_advance offered_by line_of call_of nearest thousandths agrees first_difference differs_at ticks_of busy_ticks is_call formed unended first_false refused_at stations_in calls_in refused_line differs_line station_line same_lines busy_of result_of rerun_output
is_rerun (log reruns output) = same (rerun_output log) output

-- Lines of `T` with ticket 0.
abbrev pub idle_ticks : ℕ → List ℕ
idle_ticks k = concat (replicate k (ascii "T 0\n"))

-- Document 02, (iv): "an empty log gets 21 at line 1"; no tick; a tick without an order.
abbrev pub short_logs : List Rerunning
short_logs =
    (ascii "" reruns ascii "refused 21 1\n")
    ∷ (ascii "N 1\n" reruns ascii "same\n1 0 0\n")
    ∷ (ascii "N 8\nT 0\n" reruns ascii "same\n1 0 0\n2 0 0\n3 0 0\n4 0 0\n5 0 0\n6 0 0\n7 0 0\n8 0 0\n")
    ∷ []

-- One order through one station, and one through two: ranks first, then costs. The order is out in the tick in which it leaves the last station.
abbrev pub served_logs : List Rerunning
served_logs =
    (ascii "N 1\nO 0 5 2 0 1\nT 0\nT 1\nT 0\n" reruns ascii "same\n1 2 667\n")
    ∷ (ascii "N 2\nO 100 7 9 1 2 0 1\nT 0\nT 0\nT 1\n" reruns ascii "same\n1 1 333\n2 2 667\n")
    ∷ []

-- Document 02, (iv): "rounded to nearest, a half upward": 1 of 16 ticks is 62.5 thousandths, 3 of 16 are 187.5.
abbrev pub half_logs : List Rerunning
half_logs =
    (ascii "N 1\nO 0 0 1 0 1\nT 1\n" ++ idle_ticks 15 reruns ascii "same\n1 1 63\n")
    ∷ (ascii "N 1\nO 0 0 3 0 1\nT 0\nT 0\nT 1\n" ++ idle_ticks 13 reruns ascii "same\n1 3 188\n")
    ∷ []

-- What disagrees: a number, the ticket of a done order, the ticket of a declined one, a ticket out. A declined order has ticket 0; a cost of 6,001 has the form,
-- and gets 6.
abbrev pub differing_logs : List Rerunning
differing_logs =
    (ascii "N 1\nO 0 5 6001 6 0\n" reruns ascii "same\n1 0 0\n")
    ∷ (ascii "N 1\nO 0 5 6001 6 1\n" reruns ascii "differs 2\n")
    ∷ (ascii "N 1\nO 0 5 6001 7 0\n" reruns ascii "differs 2\n")
    ∷ (ascii "N 1\nO 0 5 2 0 2\n" reruns ascii "differs 2\n")
    ∷ (ascii "N 1\nO 0 5 1 0 1\nT 0\nT 0\n" reruns ascii "differs 3\n")
    ∷ []

-- Document 02, (iv): "the first such line anywhere in the log is printed as `refused 21` and its line number in place of any result": after a line that disagrees
-- too.
abbrev pub other_logs : List Rerunning
other_logs =
    (ascii "N 1\nT 7\nT 0\nX\n" reruns ascii "refused 21 4\n")
    ∷ (ascii "N 1\nT 7\nT 0\nT 0" reruns ascii "refused 21 4\n")
    ∷ (ascii "N 1\nT 7\nT 0\n" reruns ascii "differs 2\n")
    ∷ (ascii "N 0\n" reruns ascii "refused 21 1\n")
    ∷ (ascii "N 9\n" reruns ascii "refused 21 1\n")
    ∷ (ascii "N 01\n" reruns ascii "refused 21 1\n")
    ∷ (ascii "N 1" reruns ascii "refused 21 1\n")
    ∷ (ascii "N 1\n\n" reruns ascii "refused 21 2\n")
    ∷ (ascii "N 1\nT  0\n" reruns ascii "refused 21 2\n")
    ∷ (ascii "N 1\nT 0 \n" reruns ascii "refused 21 2\n")
    ∷ (ascii "N 1\nO 0 5 2 0\n" reruns ascii "refused 21 2\n")
    ∷ (ascii "N 1\nO 0 5 2 0 1 0\n" reruns ascii "refused 21 2\n")
    ∷ []

-- Document 02, (iv): "a value too large for its field": the largest that each field holds, and one more.
abbrev pub field_logs : List Rerunning
field_logs =
    (ascii "N 1\nO 4294967295 255 65535 6 0\n" reruns ascii "same\n1 0 0\n")
    ∷ (ascii "N 1\nO 4294967296 255 1 7 0\n" reruns ascii "refused 21 2\n")
    ∷ (ascii "N 1\nO 0 256 1 0 1\n" reruns ascii "refused 21 2\n")
    ∷ (ascii "N 1\nO 0 255 65536 6 0\n" reruns ascii "refused 21 2\n")
    ∷ (ascii "N 1\nO 0 255 65535 4294967295 4294967295\n" reruns ascii "differs 2\n")
    ∷ (ascii "N 1\nO 0 255 65535 4294967296 0\n" reruns ascii "refused 21 2\n")
    ∷ (ascii "N 1\nO 0 255 65535 6 4294967296\n" reruns ascii "refused 21 2\n")
    ∷ (ascii "N 1\nT 4294967296\n" reruns ascii "refused 21 2\n")
    ∷ []

abbrev pub log_tables : List Rerunning
log_tables = short_logs ++ (served_logs ++ (half_logs ++ (differing_logs ++ (other_logs ++ field_logs))))

-- Document 02, (v): "The rule for picking a sheet changes, and with it advance and the rerun." Of equal ranks ticket 2 is due first and is out first; in a log by
-- the smaller ticket line 5 disagrees. And two due ticks that are equal, by ticket, where the later ticket has the smaller due-in.
abbrev pub tie_logs : List Rerunning
tie_logs =
    (ascii "N 1\nO 20 5 3 0 1\nO 10 5 2 0 2\nT 0\nT 2\nT 0\nT 0\nT 1\n" reruns ascii "same\n1 5 1000\n")
    ∷ (ascii "N 1\nO 20 5 3 0 1\nO 10 5 2 0 2\nT 0\nT 0\nT 1\nT 0\nT 2\n" reruns ascii "differs 5\n")
    ∷ (ascii "N 1\nO 20 0 3 0 1\nO 20 5 2 0 2\nT 0\nO 19 5 1 0 3\nT 0\nT 1\nT 0\nT 2\nT 3\n" reruns ascii "same\n1 6 1000\n")
    ∷ []

-- So many busy ticks of so many, and their thousandths. 1 of 2,000 is half a thousandth, 3 of 2,000 are one and a half.
pub record Share : Type 0 where
  pub busy : ℕ
  pub all : ℕ
  pub printed : ℕ

unfoldable pub is_share : Share → Bool
unfolding nearest thousandths
is_share s = eqb (thousandths s.busy s.all) s.printed

abbrev share : ℕ → ℕ → ℕ → Share
share busy all printed = record { busy = busy; all = all; printed = printed }

abbrev pub shares : List Share
shares = share 0 0 0 ∷ share 0 7 0 ∷ share 1 2000 1 ∷ share 3 2000 2 ∷ share 999 2000000 0 ∷ share 1000 2000000 1 ∷ share 2 3 667 ∷ share 4000000000 4000000000 1000 ∷ []
