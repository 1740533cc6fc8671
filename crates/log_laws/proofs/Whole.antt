-- A log that is fed byte by byte prints what is said of the whole log: its bytes are fed line by line, the first line opens a cabinet or is refused, and
-- from the second line on forms and calls say what is printed.
use mathlib.Core.Path.{◌≡◌, refl, sym, ap, ◌∙◌}
use mathlib.Core.Logic.{◌⊎◌, inl, inr}
use mathlib.Core.Bool.{true, false, or-true}
use mathlib.Core.List.{List, [], ◌∷◌, ◌++◌, map}
use Prim.Native.Nat.{ℕ, ◌≤◌}
use native.Mathlib.Omega.{arith}
use lib.ListN.{length, get_or, drop, length-map}
use Rattle.model.specs.Layout.{image_size}
use Rattle.text.specs.Parts.{line_feed, parts, last_of, lines}
use Rattle.schedule.proofs.Laws.{test}
use Rattle.log_model.specs.Limits.{last_line}
use Rattle.log_model.specs.Lines.{is_stations, stations_of, line_of}
use Rattle.log_model.specs.Output.{is_call, formed, unended, refused_at, stations_in, calls_in, result_of, rerun_output}
use Rattle.log_model.specs.Reading.{Ran, next_line, settled, refused_here, opened_with, first_line, line_ended, fed_all, begun}
use Rattle.log_laws.specs.Meaning.{read_log, ReadsAsWhole}
use Rattle.log_laws.proofs.Feeding.{cut, ran_in, after_lines, start, fed_log}
use Rattle.log_laws.proofs.Counting.{opened, opened_result}
use Rattle.log_laws.proofs.CallLines.{none, shown, printed_shown, verdict, verdict_true, verdict_false, cut_whole, cut_other, refused_stays, From, prints}
use Rattle.log_laws.proofs.Lines.{stations_range, stations_short}

-- What is printed after these lines and the bytes p, from any image; what is said of them.
abbrev read : List ℕ → List (List ℕ) → List ℕ → List ℕ
read image lines p = shown (after_lines (ran_in (start image)) lines).rerun (none p)

abbrev output : List (List ℕ) → List ℕ → List ℕ
output lines p =
    let n = stations_of (get_or lines 0 []) in
    verdict 1 (formed lines ++ unended p) (result_of n (map (line_of n) (drop 1 lines)))

abbrev Reads : List ℕ → List (List ℕ) → List ℕ → Type 0
Reads image lines p = (read image lines p ≡ output lines p) ⊎ ((read image lines p ≡ []) × (last_line ≤ length lines))

-- ---- all of a log is its lines and the bytes after them
read_is : (image log : List ℕ) → read_log image log ≡ read image (lines log) (last_of (parts line_feed log))
unfolding lines
read_is image log =
    let fed = fed_log image log in
    printed_shown (fed_all (start image) log).reading (last_of (parts line_feed log)) fed.holds
    ∙ ap (λ (t : Ran). shown t.rerun (none (last_of (parts line_feed log)))) fed.ran

output_is : (log : List ℕ) → rerun_output log ≡ output (lines log) (last_of (parts line_feed log))
unfolding rerun_output refused_at stations_in calls_in
output_is log = refl

-- ---- there is no line
reads_none : (image p : List ℕ) → read image [] p ≡ output [] p
unfolding shown begun formed
reads_none image p = rw or-true (sym (verdict_false 1 (unended p) (result_of (stations_of []) []) (omega arith)))

-- ---- the first line
first_ended : (image line : List ℕ) → line_ended (ran_in (start image)) line ≡ first_line (ran_in (start image)) line
unfolding line_ended settled begun
first_ended image line = refl

other_ended : (image line : List ℕ) → is_stations line ≡ false → (line_ended (ran_in (start image)) line).rerun.refused ≡ 1
unfolding first_line refused_here begun
other_ended image line e = ap (λ (t : Ran). t.rerun.refused) (first_ended image line) ∙ rw e

stations_ended : (image line : List ℕ) → is_stations line ≡ true → line_ended (ran_in (start image)) line ≡ opened image (stations_of line)
unfolding first_line
stations_ended image line e = first_ended image line ∙ rw e

module _ (image first : List ℕ) (later : List (List ℕ)) (p : List ℕ) where
  reads_other : is_stations first ≡ false → read image (first ∷ later) p ≡ output (first ∷ later) p
  unfolding formed
  reads_other e =
      let here = other_ended image (cut first) (cut_other is_stations stations_short first e) in
      refused_stays (line_ended (ran_in (start image)) (cut first)) later (none p) 1 (omega arith) here
      ∙ sym (rw e (verdict_false 1 _ _ (omega arith)))

  module _ (whole : length image ≡ image_size) (e : is_stations first ≡ true) where
    abbrev n : ℕ
    n = stations_of first

    abbrev out : List ℕ
    out = result_of n (map (line_of n) later)

    read_opened : read image (first ∷ later) p ≡ shown (after_lines (opened image n) later).rerun (none p)
    read_opened =
        ap (λ (t : Ran). shown (after_lines t later).rerun (none p))
        (ap (line_ended (ran_in (start image))) (cut_whole is_stations stations_short first e) ∙ stations_ended image first e)

    output_opened : output (first ∷ later) p ≡ verdict 2 (map (is_call n) later ++ unended p) out
    unfolding formed
    output_opened = rw e (verdict_true 1 (map (is_call n) later ++ unended p) out)

    from_opened : From n 2 (opened image n) later out
    unfolding opened_with begun next_line
    from_opened =
        let range = stations_range first e in
        record {
          low = omega arith;
          counted = omega arith;
          at_line = record { line = refl; stations = refl; refused = refl };
          ends = λ counts. opened_result image n whole range.0 range.1 (map (line_of n) later) (omega (arith, length-map later (line_of n)));
        }

    reads_opened : Reads image (first ∷ later) p
    reads_opened =
        elim (prints n (stations_range first e).1 p out later 2 (opened image n) from_opened) [
          | inl same ↦ inl (read_opened ∙ same ∙ sym output_opened)
          | inr nothing ↦ inr (read_opened ∙ nothing.0, omega (arith, nothing.1))
        ]

reads : (image : List ℕ) → length image ≡ image_size → (lines : List (List ℕ)) (p : List ℕ) → Reads image lines p
reads image whole [] p = inl (reads_none image p)
reads image whole (first ∷ later) p =
    elim (test (is_stations first)) [ inl e ↦ reads_opened image first later p whole e | inr e ↦ inl (reads_other image first later p e) ]

pub reads_as_whole : ReadsAsWhole
reads_as_whole image whole log =
    elim (reads image whole (lines log) (last_of (parts line_feed log))) [
      | inl same ↦ inl (read_is image log ∙ same ∙ sym (output_is log))
      | inr nothing ↦ inr (read_is image log ∙ nothing.0, nothing.1)
    ]
