-- A log that is written is read back, and a log of the form is the one that is written from what is read. By its lines, each by the laws of its kind.
use mathlib.Core.Path.{◌≡◌, refl, sym, ap, ◌∙◌}
use mathlib.Core.Bool.{Bool, true, false, true≢false}
use mathlib.Core.List.{List, [], ◌∷◌, ◌++◌, map, append-nil}
use Prim.Native.Nat.{ℕ, suc, ◌≤◌}
use native.Mathlib.Omega.{arith}
use Rattle.model.specs.Limits.{max_stations}
use Rattle.model.specs.Lists.{all}
use Rattle.text.specs.Parts.{line_feed, parts, last_of, lines}
use Rattle.lists.proofs.Tests.{and_both, all_append}
use Rattle.text.proofs.Joined.{without}
use Rattle.log_model.specs.Lines.{is_stations, stations_of, Line, line_of}
use Rattle.log_model.specs.Output.{is_call, formed, unended, first_false, refused_at, stations_in, calls_in}
use Rattle.log_model.specs.Written.{stations_bytes, call_bytes, ended, written_log}
use Rattle.log_laws.specs.Fits.{AllFit}
use Rattle.log_laws.proofs.Ended.{lines_ended, none_after, ended_lines}
use Rattle.log_laws.proofs.Lines.{stations_read, stations_written, stations_unbroken, stations_range, stations_back, call_written, call_read, call_unbroken, call_back}

-- No line is refused where each has its form, and only there.
none_refused : (k : ℕ) (l : List Bool) → all (λ b. b) l ≡ true → first_false k l ≡ 0
unfolding first_false all
none_refused k [] e = refl
none_refused k (true ∷ l) e = none_refused (suc k) l e
none_refused k (false ∷ l) e = absurd (true≢false (sym e))

each_formed : (k : ℕ) → 1 ≤ k → (l : List Bool) → first_false k l ≡ 0 → all (λ b. b) l ≡ true
unfolding first_false all
each_formed k low [] e = refl
each_formed k low (true ∷ l) e = each_formed (suc k) (omega arith) l e
each_formed k low (false ∷ l) e = absurd (let z : ⊥ = omega arith in z)

-- ---- what is written is read back
calls_written : (n : ℕ) (calls : List Line) → AllFit n calls → all (λ b. b) (map (is_call n) (map call_bytes calls)) ≡ true
unfolding all
calls_written n [] fit = refl
calls_written n (line ∷ later) fit = rw (call_written n line fit.0) (calls_written n later fit.1)

calls_read : (n : ℕ) (calls : List Line) → AllFit n calls → map (line_of n) (map call_bytes calls) ≡ calls
calls_read n [] fit = refl
calls_read n (line ∷ later) fit = rw (call_read n line fit.0, calls_read n later fit.1)

calls_unbroken : (calls : List Line) → all (without line_feed) (map call_bytes calls) ≡ true
unfolding all
calls_unbroken [] = refl
calls_unbroken (line ∷ later) = rw (call_unbroken line) (calls_unbroken later)

module _ (n : ℕ) (calls : List Line) where
  lines_unbroken : all (without line_feed) (stations_bytes n ∷ map call_bytes calls) ≡ true
  unfolding all
  lines_unbroken = rw (stations_unbroken n) (calls_unbroken calls)

  log_lines : lines (written_log n calls) ≡ stations_bytes n ∷ map call_bytes calls
  unfolding written_log
  log_lines = lines_ended (stations_bytes n ∷ map call_bytes calls) lines_unbroken

  log_end : last_of (parts line_feed (written_log n calls)) ≡ []
  unfolding written_log
  log_end = none_after (stations_bytes n ∷ map call_bytes calls) lines_unbroken

pub record ReadBack (n : ℕ) (calls : List Line) : Type 0 where
  pub has_form : refused_at (written_log n calls) ≡ 0
  pub stations : stations_in (written_log n calls) ≡ n
  pub same_calls : calls_in (written_log n calls) ≡ calls

-- What is asked of the lines in turn: the first says n stations, and each of the others is asked whether it is a call's.
tests_written :
    (n : ℕ) (calls : List Line) → 1 ≤ n → n ≤ max_stations → formed (lines (written_log n calls)) ++ unended (last_of (parts line_feed (written_log n calls))) ≡ true ∷ map (is_call n) (map call_bytes calls)
unfolding formed unended
tests_written n calls low high =
    rw (log_lines n calls, log_end n calls, append-nil (map (is_call (stations_of (stations_bytes n))) (map call_bytes calls)))
    (
    ap (λ (k : ℕ). is_stations (stations_bytes n) ∷ map (is_call k) (map call_bytes calls)) (stations_read n)
    ∙ ap (λ (b : Bool). b ∷ map (is_call n) (map call_bytes calls)) (stations_written n low high)
    )

pub read_back : (n : ℕ) (calls : List Line) → 1 ≤ n → n ≤ max_stations → AllFit n calls → ReadBack n calls
unfolding refused_at stations_in calls_in all
read_back n calls low high fit =
    record {
      has_form =
          rw (tests_written n calls low high)
          (none_refused 1 (true ∷ map (is_call n) (map call_bytes calls)) (calls_written n calls fit));
      stations = rw (log_lines n calls) (stations_read n);
      same_calls = rw (log_lines n calls, stations_read n) (calls_read n calls fit);
    }

-- ---- a log of the form is the one that is written
calls_back : (n : ℕ) (ls : List (List ℕ)) → all (λ b. b) (map (is_call n) ls) ≡ true → map call_bytes (map (line_of n) ls) ≡ ls
unfolding all
calls_back n [] e = refl
calls_back n (line ∷ later) e =
    let both = and_both (is_call n line) (all (λ b. b) (map (is_call n) later)) e in
    rw (call_back n line both.0, calls_back n later both.1)

none_unended : (l : List ℕ) → all (λ b. b) (unended l) ≡ true → l ≡ []
unfolding unended all
none_unended [] e = refl
none_unended (b ∷ l) e = absurd (true≢false (sym e))

pub record WrittenBack (log : List ℕ) : Type 0 where
  pub low : 1 ≤ stations_in log
  pub high : stations_in log ≤ max_stations
  pub is_log : log ≡ written_log (stations_in log) (calls_in log)

from_lines : (log : List ℕ) (ls : List (List ℕ)) → lines log ≡ ls → all (λ b. b) (formed ls) ≡ true → ended (lines log) ≡ log → WrittenBack log
unfolding formed all stations_in calls_in written_log
from_lines log [] q e whole = absurd (true≢false (sym e))
from_lines log (first ∷ later) q e whole =
    let both = and_both (is_stations first) (all (λ b. b) (map (is_call (stations_of first)) later)) e in
    let range = stations_range first both.0 in
    record {
      low = rw q range.0;
      high = rw q range.1;
      is_log = rw (q, stations_back first both.0, calls_back (stations_of first) later both.1) (sym (rw q at whole));
    }

pub written_back : (log : List ℕ) → refused_at log ≡ 0 → WrittenBack log
unfolding refused_at
written_back log e =
    let front = formed (lines log) in
    let end = unended (last_of (parts line_feed log)) in
    let both = and_both (all (λ b. b) front) (all (λ b. b) end) (sym (all_append (λ b. b) front end) ∙ each_formed 1 (omega arith) (front ++ end) e) in
    from_lines log (lines log) refl both.0 (ended_lines log (none_unended (last_of (parts line_feed log)) both.1))
