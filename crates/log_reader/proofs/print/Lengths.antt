-- The length of each text by the lengths of its parts, and the lines of the stations as rows that are given by their places. By taking `++` apart.
use mathlib.Core.Path.{◌≡◌, ap}
use mathlib.Core.List.{List, ◌++◌}
use Prim.Native.Nat.{ℕ, ◌+◌, ◌≤◌}
use lib.ListN.{length, get_or, take, length-append}
use Rattle.model.specs.Lists.{concat, upward}
use Rattle.text.specs.Ascii.{ascii}
use Rattle.text.specs.Decimal.{decimal}
use Rattle.text.proofs.Rows.{numbered-rows}
use Rattle.log_model.specs.Rounding.{thousandths}
use Rattle.log_model.specs.Output.{station_line, same_lines}
use Rattle.log_reader.specs.Printed.{station_lines}

pub length_numbered : (words : List ℕ) (k : ℕ) → length (words ++ decimal k ++ ascii "\n") ≡ length words + length (decimal k) + 1
length_numbered words k = simp length-append

pub length_station : (all k busy : ℕ) → length (station_line all k busy) ≡ length (decimal k) + 1 + length (decimal busy) + 1 + length (decimal (thousandths busy all)) + 1
unfolding station_line
length_station all k busy = simp length-append

pub length-same : (all : ℕ) (busy : List ℕ) → length (same_lines all busy) ≡ 5 + length (station_lines all busy)
unfolding same_lines station_lines
length-same all busy = simp length-append

-- The lines of the first stations, where row i is the line of the station at place i, counted from 0.
abbrev pub station_row : ℕ → List ℕ → ℕ → List ℕ
station_row all busy i = station_line all (i + 1) (get_or busy i 0)

pub station_rows : (all n : ℕ) (busy : List ℕ) → n ≤ length busy → station_lines all (take n busy) ≡ concat (upward 0 n (station_row all busy))
unfolding station_lines
station_rows all n busy h = ap concat (numbered-rows 0 (station_line all) n busy h)
