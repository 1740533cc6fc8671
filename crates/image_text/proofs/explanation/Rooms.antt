-- The room that the parts of a report take. A sound image's state is in range, since an image is bytes.
use mathlib.Core.Path.{◌≡◌}
use mathlib.Core.Bool.{true}
use mathlib.Core.List.{List, []}
use Rattle.std.proofs.Common.{Option, Some, None}
use Prim.Native.Nat.{ℕ, ◌≤◌, ◌<◌}
use native.Mathlib.Omega.{arith}
use lib.ListN.{length, length-append}
use Rattle.model.specs.Limits.{max_stations, max_live}
use Rattle.model.specs.Image.{decode}
use Rattle.model.specs.Soundness.{sound}
use Rattle.text.specs.Decimal.{decimal}
use Rattle.text.proofs.Decimals.{length-decimal}
use Rattle.image.specs.Pipeline.{padded}
use Rattle.image_laws.specs.InRange.{byte_limit, word_limit, Below}
use Rattle.image_laws.proofs.Read.{decode-byte-ranks}
use Rattle.image_laws.proofs.Sound.{sound_gives}
use Rattle.image_text.specs.Report.{line_feed, figure_line, state_report, clause_line}
use Rattle.image_text.proofs.report.Lengths.{length_clause}
use Rattle.image_text.proofs.report.Room.{state_room}
use Rattle.image_text.specs.declared.first_flaw.Flaw.{Flaw}
use Rattle.image_text.specs.declared.first_flaw.Flaw.TheVariants.{StationCount, LiveCount, Clock, ZeroBytes, UnusedRecords, Tickets, Acceptance, Due, Station, Costs, Maxima, Sum, OnTime, Beyond, Services}
use Rattle.image_text.specs.Explanation.{name_of, flaw_name}

pub number_room : (number : ℕ) → number < word_limit → length (figure_line "number " number) ≤ 18
number_room number h = omega (arith, length-append (decimal number) line_feed, length-decimal 9 number (omega arith))

-- No name of a clause has more than 14 bytes.
name_short : (flaw : Flaw) → length (name_of flaw) ≤ 14
name_short StationCount = omega arith
name_short LiveCount = omega arith
name_short Clock = omega arith
name_short ZeroBytes = omega arith
name_short UnusedRecords = omega arith
name_short Tickets = omega arith
name_short Acceptance = omega arith
name_short Due = omega arith
name_short Station = omega arith
name_short Costs = omega arith
name_short Maxima = omega arith
name_short Sum = omega arith
name_short OnTime = omega arith
name_short Beyond = omega arith
name_short Services = omega arith

pub clause_room : (flaw : Option Flaw) → length (clause_line (flaw_name flaw)) ≤ 22
clause_room None = omega (arith, length_clause [])
clause_room (Some flaw) = omega (arith, length_clause (name_of flaw), name_short flaw)

-- What a sound image says can be held by the code's state, and be printed.
pub record Held (image : List ℕ) : Type 0 where
  pub stations : (padded (decode image)).n ≤ max_stations
  pub live : (padded (decode image)).live ≤ max_live
  pub room : length (state_report (decode image)) ≤ 8000

pub sound_held : (image : List ℕ) → Below byte_limit image → sound image ≡ true → Held image
unfolding padded
sound_held image bytes e =
    let g = sound_gives image bytes e in
    record { stations = g.facts.n_high; live = g.facts.live; room = state_room (decode image) g.in_range (decode-byte-ranks image bytes) g.facts.n_high }
