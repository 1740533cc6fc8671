-- Document 02, (iv): what a workshop can rely on.
use Rattle.std.specs.Prelude.{◌≡◌, ◌⊎◌, Bool, true, false, ℕ, ◌+◌, ◌≤◌, ◌<◌, length, get_or}
use mathlib.Core.List.{List, [], ◌∷◌, ◌++◌, foldl}
use Rattle.model.specs.Limits.{max_stations}
use Rattle.model.specs.Lists.{at, concat}
use Rattle.model.specs.Bytes.{word}
use Rattle.model.specs.State.{fresh}
use Rattle.model.specs.Layout.{image_size, reply_size, reply_ticket_at}
use Rattle.model.specs.Image.{encode}
use Rattle.model.specs.Calls.{Call, opening, quoting, offering, quoting_format, offering_format, advancing, perform}
use Rattle.model.specs.Runs.{Lent, Run, started, after_all, AllAllowed}
use Rattle.text.specs.Ascii.{ascii}
use Rattle.text.specs.Parts.{line_feed, parts, last_of, lines}
use Rattle.log_model.specs.Limits.{most8, last_line}
use Rattle.log_model.specs.Lines.{Line, call_of, number_of, ticket_of}
use Rattle.log_model.specs.Rerun.{lent_reply, ticks_of}
use Rattle.log_model.specs.Output.{formed, unended, stations_in, calls_in, refused_line, differs_line, same_lines, busy_of, rerun_output}
use Rattle.log_model.specs.Reading.{Fed, fed_all, begun, printed}
use Rattle.log_model.specs.Written.{written_log, lines_of_calls, book_ticks}

-- The orders of a list of calls are bytes, as every call takes them.
abbrev pub OfBytes : Call → Type 0
OfBytes (opening n) = Unit {0}
OfBytes (quoting block) = Unit {0}
OfBytes (offering block) = (i : ℕ) → get_or block i 0 ≤ most8
OfBytes (quoting_format f) = Unit {0}
OfBytes (offering_format f) = f.rank ≤ most8
OfBytes advancing = Unit {0}

abbrev pub AllOfBytes : List Lent → Type 0
AllOfBytes [] = Unit {0}
AllOfBytes (lent ∷ later) = OfBytes lent.call × AllOfBytes later

-- A log that is written from a list of calls reruns as `same`. All ticks are the book's clock, and busy ticks are those of its stations.
pub record RerunsAsSame (n : ℕ) (run : Run) (calls : List Lent) : Type 0 where
  pub ticks : length (book_ticks run calls) ≡ (after_all run calls).history.clock
  pub prints : rerun_output (written_log n (lines_of_calls run calls)) ≡ same_lines (length (book_ticks run calls)) (busy_of n (book_ticks run calls))

-- Of any list that demand 3 speaks of.
abbrev pub WrittenReruns : Type 0
WrittenReruns =
    (n : ℕ) → 1 ≤ n → n ≤ max_stations
    → (image : List ℕ) → length image ≡ image_size
    → (reply : List ℕ) → length reply ≡ reply_size
    → (calls : List Lent) → AllAllowed (started image n reply) calls → AllOfBytes calls
    → RerunsAsSame n (started image n reply) calls

-- Each line's number and ticket are those that its call gives, with any reply of 16 bytes lent to it, on the image that the calls before leave.
abbrev pub Gives : List ℕ → Line → Type 0
Gives image line = (reply : List ℕ) → length reply ≡ reply_size → ((perform (call_of line) image reply).number ≡ number_of line) × (word (perform (call_of line) image reply).reply reply_ticket_at ≡ ticket_of line)

abbrev pub AllGive : List ℕ → List Line → Type 0
AllGive image [] = Unit {0}
AllGive image (line ∷ later) = Gives image line × AllGive (perform (call_of line) image lent_reply).image later

-- A log that reruns as `same` is the one that is written of its stations and calls, and every recorded number and ticket is the one that the calls give from
-- a fresh cabinet.
pub record Recorded (log : List ℕ) (n : ℕ) (calls : List Line) : Type 0 where
  pub n_low : 1 ≤ n
  pub n_high : n ≤ max_stations
  pub is_log : log ≡ written_log n calls
  pub given : AllGive (encode (fresh n)) calls

abbrev pub SameMeans : Type 0
SameMeans = (log rest : List ℕ) → rerun_output log ≡ ascii "same\n" ++ rest → Recorded log (stations_in log) (calls_in log)

-- Whether each line of a log has its form, in turn, with what stands after the last line feed.
abbrev pub forms : List ℕ → List Bool
forms log = formed (lines log) ++ unended (last_of (parts line_feed log))

-- The image that the calls of lines leave.
abbrev pub image_after : List ℕ → List Line → List ℕ
image_after image [] = image
image_after image (line ∷ later) = image_after (perform (call_of line) image lent_reply).image later

-- What is printed, by the lines: which of the three it is, and which line is named.
pub record Verdicts (log : List ℕ) (n : ℕ) (calls : List Line) : Type 0 where
  -- Document 02, (iv): "the first such line anywhere in the log is printed as `refused 21` and its line number in place of any result"
  pub refused : (k : ℕ) → at true (forms log) k ≡ false → ((j : ℕ) → j < k → at true (forms log) j ≡ true) → rerun_output log ≡ refused_line k
  -- Document 02, (iv): "`differs` and the number of the first line that disagrees"; the `N` line is line 1.
  pub differs :
      ((k : ℕ) → at true (forms log) k ≡ true)
      → (before later : List Line) (line : Line) → calls ≡ before ++ (line ∷ later)
      → AllGive (encode (fresh n)) before → (Gives (image_after (encode (fresh n)) before) line → ⊥)
      → rerun_output log ≡ differs_line (length before + 2)
  -- Document 02, (iv): "prints `same`"; "After `same`, for each station one line"
  pub same :
      ((k : ℕ) → at true (forms log) k ≡ true)
      → AllGive (encode (fresh n)) calls
      → rerun_output log ≡ same_lines (length (ticks_of n calls)) (busy_of n (ticks_of n calls))

abbrev pub PrintsAsAsked : Type 0
PrintsAsAsked = (log : List ℕ) → Verdicts log (stations_in log) (calls_in log)

-- What has been fed determines the state, whatever the chunks were.
abbrev pub WhateverChunks : Type 0
WhateverChunks = (f : Fed) (chunks : List (List ℕ)) → foldl fed_all f chunks ≡ fed_all f (concat chunks)

-- From any image, what is printed when all of a log has been fed is what is printed for the log; nothing is printed where lines are no longer counted.
abbrev pub read_log : List ℕ → List ℕ → List ℕ
read_log image log = printed (fed_all (record { reading = begun; image = image }) log).reading

abbrev pub ReadsAsWhole : Type 0
ReadsAsWhole =
    (image : List ℕ) → length image ≡ image_size
    → (log : List ℕ) → (read_log image log ≡ rerun_output log) ⊎ ((read_log image log ≡ []) × (last_line ≤ length (lines log)))
