-- The lines of eight stations after `same` take at most 221 bytes, and the other lines at most 32, so that a buffer of 256 always has room. By the largest
-- number of digits of each figure.
use mathlib.Core.Path.{◌≡◌, refl, ap}
use mathlib.Core.List.{List, ◌++◌}
use Prim.Native.Nat.{ℕ, ◌+◌, ◌≤◌, min}
use native.Mathlib.Omega.{arith}
use lib.ListN.{length, get_or, take}
use borrow.Author.Tests.{eqb-true, eqb-false}
use Rattle.model.specs.Limits.{max_stations}
use Rattle.model.specs.Lists.{is_zero}
use Rattle.lists.proofs.Tests.{either}
use Rattle.text.specs.Ascii.{ascii}
use Rattle.text.specs.Decimal.{decimal}
use Rattle.text.proofs.Decimals.{length-decimal}
use Rattle.text.proofs.Rows.{rows_at_most}
use Rattle.log_model.specs.declared.Reading.{Reading}
use Rattle.log_model.specs.declared.Rerun.{Rerun}
use Rattle.log_model.specs.Limits.{most32, last_line}
use Rattle.log_model.specs.Rounding.{thousandths}
use Rattle.log_model.specs.Output.{refused_line, differs_line, station_line, same_lines}
use Rattle.log_model.specs.Reading.{at_end, printed}
use Rattle.log_reader.proofs.rounding.ShareLaws.{share_at_most}
use Rattle.log_reader.proofs.print.Cases.{ends_different, ends_same, unfinished, prints_refused, prints_nothing, prints_unfinished, prints_result}
use Rattle.log_reader.proofs.print.Lengths.{length_numbered, length_station, length-same, station_row, station_rows}

numbered_room : (words : List ℕ) (k : ℕ) → length words ≤ 11 → k ≤ last_line → length (words ++ decimal k ++ ascii "\n") ≤ 256
numbered_room words k few h = omega (arith, length_numbered words k, length-decimal 19 k (omega arith))

-- At most 1 digit of the station, 10 of its busy ticks and 13 of their share, two spaces and a line feed.
station_room : (all k busy : ℕ) → k ≤ max_stations → busy ≤ most32 → length (station_line all k busy) ≤ 27
station_room all k busy h b =
    omega (
      arith,
      length_station all k busy,
      length-decimal 0 k (omega arith),
      length-decimal 9 busy (omega arith),
      length-decimal 12 (thousandths busy all) (omega (arith, share_at_most busy all b)),
    )

same_room : (all n : ℕ) (busy : List ℕ) → n ≤ max_stations → n ≤ length busy → ((i : ℕ) → get_or busy i 0 ≤ most32) → length (same_lines all (take n busy)) ≤ 256
same_room all n busy h long each =
    omega (
      arith,
      length-same all (take n busy),
      ap length (station_rows all n busy long),
      rows_at_most (station_row all busy) 27 n (λ i l. station_room all (i + 1) (get_or busy i 0) (omega arith) (each i)),
    )

result_room : (r : Rerun) → length r.busy ≡ max_stations → ((i : ℕ) → get_or r.busy i 0 ≤ most32) → r.differs ≤ last_line → length (at_end r) ≤ 256
unfolding differs_line
result_room r long each counted =
    either (λ b. length (at_end r) ≤ 256) (is_zero r.differs)
    (λ none.
    let n = min r.stations max_stations in
    rw (ends_same r n (eqb-true r.differs 0 none) long refl) (same_room r.ticks n r.busy (omega arith) (omega arith) each))
    (λ some. rw (ends_different r (eqb-false r.differs 0 some)) (numbered_room (ascii "differs ") r.differs (omega arith) counted))

pub printed_room : (s : Reading) → length s.rerun.busy ≡ max_stations → ((i : ℕ) → get_or s.rerun.busy i 0 ≤ most32) → s.rerun.refused ≤ last_line → s.rerun.differs ≤ last_line → s.rerun.line ≤ last_line → length (printed s) ≤ 256
unfolding refused_line
printed_room s long each refused differs line =
    let r = s.rerun in
    either (λ b. length (printed s) ≤ 256) (is_zero r.refused)
    (λ none.
    let n = eqb-true r.refused 0 none in
    either (λ b. length (printed s) ≤ 256) (is_zero r.line)
    (λ uncounted. rw (prints_nothing s n (eqb-true r.line 0 uncounted)) (omega arith))
    (λ counted.
    let k = eqb-false r.line 0 counted in
    either (λ b. length (printed s) ≤ 256) (unfinished s)
    (λ u. rw (prints_unfinished s n k u) (numbered_room (ascii "refused 21 ") r.line (omega arith) line))
    (λ u. rw (prints_result s n k u) (result_room r long each differs))))
    (λ some. rw (prints_refused s (eqb-false r.refused 0 some)) (numbered_room (ascii "refused 21 ") r.refused (omega arith) refused))
