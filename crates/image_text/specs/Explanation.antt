-- What `inspect` prints of bytes that may be an image: the number that questions 2 to 4 give them; of a sound image what it says, of one that breaks a
-- clause of "Sound means" the first such clause by name.
use Rattle.std.specs.Prelude.{Option, Some, None, List, [], ℕ}
use Rattle.model.specs.Image.{decode}
use Rattle.model.specs.Questions.{first_no}
use Rattle.model.specs.Calls.{image_questions}
use Rattle.text.specs.Ascii.{ascii}
use Rattle.image_text.specs.Report.{report}
use Rattle.image_text.specs.declared.first_flaw.Flaw.{Flaw}
use Rattle.image_text.specs.declared.first_flaw.Flaw.TheVariants.{StationCount, LiveCount, Clock, ZeroBytes, UnusedRecords, Tickets, Acceptance, Due, Station, Costs, Maxima, Sum, OnTime, Beyond, Services}
use Rattle.image_text.specs.FirstFlaw.{first_flaw}

-- The clauses by name, in document 01's order.
abbrev pub name_of : Flaw → List ℕ
name_of StationCount = ascii "station-count"
name_of LiveCount = ascii "live-count"
name_of Clock = ascii "clock"
name_of ZeroBytes = ascii "zero-bytes"
name_of UnusedRecords = ascii "unused-records"
name_of Tickets = ascii "tickets"
name_of Acceptance = ascii "acceptance"
name_of Due = ascii "due"
name_of Station = ascii "station"
name_of Costs = ascii "costs"
name_of Maxima = ascii "maxima"
name_of Sum = ascii "sum"
name_of OnTime = ascii "on-time"
name_of Beyond = ascii "beyond"
name_of Services = ascii "services"

-- That of the first clause that fails, if one does.
abbrev pub flaw_name : Option Flaw → List ℕ
flaw_name None = []
flaw_name (Some flaw) = name_of flaw

unfoldable pub explained : List ℕ → List ℕ
explained image = report (first_no (image_questions image)) (flaw_name (first_flaw image)) (decode image)
