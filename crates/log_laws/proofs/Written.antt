-- A log that is written from a list of calls reruns as `same`: the rerun goes through the images that the list went through, call by call, and so through the ticks
-- of the history. Calls without a line leave the image as it was.
use mathlib.Core.Path.{◌≡◌, refl, sym, ap, ◌∙◌}
use mathlib.Core.List.{List, [], ◌∷◌, map}
use Prim.Native.Nat.{ℕ, zero, suc, ◌+◌, ◌≤◌}
use native.Mathlib.Omega.{arith}
use lib.ListN.{length, length-append}
use borrow.Author.Tests.{eq-eqb}
use Rattle.model.specs.Limits.{max_stations}
use Rattle.model.specs.Bytes.{word}
use Rattle.model.specs.State.{fresh}
use Rattle.model.specs.Layout.{reply_ticket_at}
use Rattle.model.specs.Image.{encode}
use Rattle.model.specs.Calls.{Result, result, open_call, Call, opening, quoting, offering, quoting_format, offering_format, advancing}
use Rattle.model.specs.History.{History, begun, feed, accept_in, advance_in, starts_in, tick_in, leave_in}
use Rattle.model.specs.Runs.{Lent, Run, started, outcome, after_call, after_all, AllAllowed, during_calls}
use Rattle.call_laws.proofs.opens.Exact as opens
use Rattle.runs.proofs.Invariant.{Invariant, open_done, invariant_started, invariant_call}
use Rattle.log_model.specs.Lines.{number_of, ticket_of}
use Rattle.log_model.specs.Rerun.{lent_of, agrees, first_difference, differs_at, ticks_of}
use Rattle.log_model.specs.Output.{result_of, rerun_output}
use Rattle.log_model.specs.Written.{lines_of_calls, during_in, book_ticks}
use Rattle.log_laws.specs.Meaning.{AllOfBytes, RerunsAsSame, WrittenReruns}
use Rattle.log_laws.specs.Fits.{AllFit}
use Rattle.log_laws.proofs.Held.{Logged, unlogged, logged, each_logged}
use Rattle.log_laws.proofs.RoundTrip.{read_back}

-- ---- what a call does to the history's N and clock
fed_n : (call : Call) (number : ℕ) (h : History) → (feed call number h).n ≡ h.n
unfolding feed accept_in advance_in leave_in tick_in starts_in
fed_n (opening n) number h = refl
fed_n (quoting block) number h = refl
fed_n (offering block) zero h = refl
fed_n (offering block) (suc other) h = refl
fed_n (quoting_format f) number h = refl
fed_n (offering_format f) zero h = refl
fed_n (offering_format f) (suc other) h = refl
fed_n advancing zero h = refl
fed_n advancing (suc other) h = refl

fed_clock : (call : Call) (number : ℕ) (h : History) → (feed call number h).clock ≡ h.clock + length (during_in call number h)
unfolding feed accept_in advance_in leave_in tick_in starts_in
fed_clock (opening n) number h = omega arith
fed_clock (quoting block) number h = omega arith
fed_clock (offering block) zero h = omega arith
fed_clock (offering block) (suc other) h = omega arith
fed_clock (quoting_format f) number h = omega arith
fed_clock (offering_format f) zero h = omega arith
fed_clock (offering_format f) (suc other) h = omega arith
fed_clock advancing zero h = omega arith
fed_clock advancing (suc other) h = omega arith

-- ---- the list, call by call
record Follows (n : ℕ) (run : Run) (calls : List Lent) : Type 0 where
  fit : AllFit n (lines_of_calls run calls)
  agree : (k : ℕ) → first_difference k run.image (lines_of_calls run calls) ≡ 0
  during : during_calls run.image (map lent_of (lines_of_calls run calls)) ≡ book_ticks run calls
  clock : run.history.clock + length (book_ticks run calls) ≡ (after_all run calls).history.clock

module _ (n : ℕ) (run : Run) (is : run.history.n ≡ n) (lent : Lent) (later : List Lent) (rest : Follows n (after_call run lent) later) where
  abbrev gave : Result
  gave = outcome run lent

  abbrev after : Run
  after = after_call run lent

  clock_more : run.history.clock + length (book_ticks run (lent ∷ later)) ≡ (after_all run (lent ∷ later)).history.clock
  unfolding book_ticks after_all after_call
  clock_more =
      let ticks = during_in lent.call gave.number run.history in
      omega (arith, length-append ticks (book_ticks after later), fed_clock lent.call gave.number run.history, rest.clock)

  follows_more : Logged run lent → Follows n run (lent ∷ later)
  unfolding lines_of_calls book_ticks first_difference agrees after_call
  follows_more (unlogged none same idle) =
      record {
        fit = rw none rest.fit;
        agree = λ k. rw none (ap (λ (image : List ℕ). first_difference k image (lines_of_calls after later)) (sym same) ∙ rest.agree k);
        during = rw (none, idle) (ap (λ (image : List ℕ). during_calls image (map lent_of (lines_of_calls after later))) (sym same) ∙ rest.during);
        clock = clock_more;
      }
  follows_more (logged line one gives number ticket fits ticks) =
      record {
        fit = rw one (rw is at fits, rest.fit);
        agree = λ k. rw (one, gives, eq-eqb gave.number (number_of line) (sym number), eq-eqb (word gave.reply reply_ticket_at) (ticket_of line) (sym ticket)) (rest.agree (k + 1));
        during = rw (one, gives, ticks, rest.during);
        clock = clock_more;
      }

follows : (n : ℕ) → n ≤ max_stations → (calls : List Lent) (run : Run) → run.history.n ≡ n → Invariant run → AllAllowed run calls → AllOfBytes calls → Follows n run calls
unfolding lines_of_calls book_ticks first_difference after_all
follows n few [] run is kept allowed bytes = record { fit = tt; agree = λ k. refl; during = refl; clock = omega arith }
follows n few (lent ∷ later) run is kept allowed bytes =
    let next : Follows n (after_call run lent) later =
    follows n few later (after_call run lent) (unfold after_call in fed_n lent.call (outcome run lent).number run.history ∙ is) (invariant_call run kept lent allowed.0) allowed.1 bytes.1 in
    follows_more n run is lent later next (each_logged run kept (rw is few) lent allowed.0 bytes.0)

-- ---- from a fresh cabinet
module _ (n : ℕ) (low : 1 ≤ n) (high : n ≤ max_stations) (run : Run) (calls : List Lent) (opened : run.image ≡ encode (fresh n)) (begins : run.history ≡ begun n) (f : Follows n run calls) where
  written_reruns_from : RerunsAsSame n run calls
  unfolding rerun_output result_of differs_at ticks_of begun
  written_reruns_from =
      let lines = lines_of_calls run calls in
      let back = read_back n lines low high f.fit in
      let clock : run.history.clock ≡ 0 = ap (λ (h : History). h.clock) begins in
      record {
        ticks = omega (arith, f.clock);
        prints = rw (back.has_form, back.stations, back.same_calls, ← opened, f.agree 2, f.during);
      }

pub written_reruns : WrittenReruns
written_reruns n low high image image_whole reply reply_whole calls allowed bytes =
    let run = started image n reply in
    let kept = invariant_started image n reply low high image_whole reply_whole in
    let done = open_done image n reply low high image_whole reply_whole in
    written_reruns_from n low high run calls
    (unfold started in opens.opened_image image n reply (unfold open_call result in done))
    (unfold started in refl)
    (follows n high calls run (unfold started begun in refl) kept allowed bytes)
