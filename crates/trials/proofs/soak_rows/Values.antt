-- Twelve values of 32 bits, each after a space, take at most 132 bytes.
use Rattle.std.proofs.Common.{◌≡◌, ℕ, ◌<◌, ◌≤◌, List, length, get_or, arith, take_all}
use Rattle.text.proofs.Decimals.{length-decimal}
use Rattle.text.proofs.Rows.{rows_at_most}
use Rattle.image_text.specs.Report.{spaced}
use Rattle.image_text.proofs.report.Lengths.{number_row, spaced_rows}

pub values_room : (vs : List ℕ) → length vs ≡ 12 → ((i : ℕ) → get_or vs i 0 < 4294967296) → length (spaced vs) ≤ 132
values_room vs h each =
    rw (← take_all 12 vs (omega arith), spaced_rows 12 vs (omega arith))
    (rows_at_most (number_row vs) 11 12 (λ i k. omega (arith, length-decimal 9 (get_or vs i 0) (let b : get_or vs i 0 < 4294967296 = each i in omega arith))))
