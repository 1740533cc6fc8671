-- While no line disagrees, the figures that are counted are those of the ticks that passed: the image is that of a run from a fresh cabinet, so that the
-- stations where an order is are those that are busy in the next tick, and the clock, which is their number, ends long before 32 bits do.
use mathlib.Core.Path.{◌≡◌, refl, sym, ap, subst, ◌∙◌}
use mathlib.Core.Logic.{inl, inr}
use mathlib.Core.Bool.{Bool, true, false, cond}
use mathlib.Core.List.{List, [], ◌∷◌, ◌++◌, map, foldl, append-nil, append_assoc}
use Prim.Native.Nat.{ℕ, zero, suc, ◌+◌, ◌≤◌, ◌<◌}
use native.Mathlib.Omega.{arith}
use lib.ListN.{length, take, length-append}
use borrow.Author.Tests.{lt-ltb, ne_eqb}
use Rattle.model.specs.declared.Service.{Service}
use Rattle.model.specs.Limits.{max_stations}
use Rattle.model.specs.Lists.{is_zero, only, upward}
use Rattle.model.specs.State.{fresh}
use Rattle.model.specs.Tick.{starts}
use Rattle.model.specs.Layout.{image_size}
use Rattle.model.specs.Image.{decode, encode}
use Rattle.model.specs.Calls.{Result, open_call, perform}
use Rattle.model.specs.History.{History, feed}
use Rattle.model.specs.History as History
use Rattle.model.specs.StateOf.{state_of}
use Rattle.model.specs.Runs.{Run, started, outcome, after_call, Allowed, during_call, during_calls}
use Rattle.lists.proofs.Fills.{upward_from}
use Rattle.lists.proofs.Tests.{only-append}
use Rattle.schedule.specs.Valid.{Valid}
use Rattle.schedule.proofs.Laws.{test, by_cond}
use Rattle.delay.proofs.Book.{same_clock}
use Rattle.delay.proofs.DueTimes.{begun_is}
use Rattle.image_laws.proofs.Sound.{sound_valid}
use Rattle.runs.proofs.Out.{advanced_clock}
use Rattle.runs.proofs.Invariant.{Invariant, says, invariant_started, invariant_call}
use Rattle.log_model.specs.declared.Rerun.{Rerun}
use Rattle.log_model.specs.Limits.{most32, last_line}
use Rattle.log_model.specs.Lines.{Line, offered, advanced, call_of}
use Rattle.log_model.specs.Rerun.{lent_reply, lent_of, agrees, first_difference, differs_at, ticks_of, is_busy, busy_ticks}
use Rattle.log_model.specs.Output.{differs_line, same_lines, busy_of, result_of}
use Rattle.log_model.specs.Reading.{Ran, next_line, passed_by, opened_with, one_more, occupied, counted, tick_passed, after_line, compared_by, ran_line, begun, at_end}
use Rattle.log_laws.proofs.Occupied.{occupied_is}

-- ---- figures
one_more_lem : (x : ℕ) → x < most32 → one_more x ≡ x + 1
unfolding one_more
one_more_lem x h = rw (lt-ltb x most32 h)

busy_more : (j : ℕ) (past : List (List Service)) (entries : List Service)
    → busy_ticks j (past ++ (entries ∷ [])) ≡ cond (is_busy j entries) (busy_ticks j past + 1) (busy_ticks j past)
unfolding busy_ticks only
busy_more j past entries = rw (only-append (is_busy j) past (entries ∷ [])) (go (is_busy j entries))
  where
    go : (b : Bool) → length (only (is_busy j) past ++ cond b (entries ∷ []) []) ≡ cond b (length (only (is_busy j) past) + 1) (length (only (is_busy j) past))
    go true = length-append (only (is_busy j) past) (entries ∷ [])
    go false = rw append-nil

counted_upward : (k n : ℕ) (here : ℕ → Bool) (f : ℕ → ℕ) → counted (upward k n here) (upward k n f) ≡ upward k n (λ j. cond (here j) (one_more (f j)) (f j))
unfolding counted upward
counted_upward k zero here f = refl
counted_upward k (suc n) here f = rw (counted_upward (suc k) n here f)

take-upward : {A : Type 0} (k n m : ℕ) (f : ℕ → A) → n ≤ m → take n (upward k m f) ≡ upward k n f
unfolding upward
take-upward k zero m f h = refl
take-upward k (suc n) zero f h = absurd (omega arith)
take-upward k (suc n) (suc m) f h = rw (take-upward (suc k) n m f (omega arith))

-- What is counted up to line k of a log of n stations, where these ticks have passed, so many as the history's clock shows.
record Counted (n k : ℕ) (past : List (List Service)) (h : History) (r : Rerun) : Type 0 where
  line : r.line ≡ k
  stations : r.stations ≡ n
  clock : h.clock ≡ length past
  ticks : r.ticks ≡ length past
  busy : r.busy ≡ upward 1 max_stations (λ j. busy_ticks j past)
  few : (j : ℕ) → busy_ticks j past ≤ length past

-- The next line.
counted_next : {n k : ℕ} {past : List (List Service)} {h : History} {r : Rerun} → k < last_line → Counted n k past h r → Counted n (k + 1) past h (compared_by true r)
unfolding compared_by next_line
counted_next {k = k} low c =
    record { line = rw (c.line, lt-ltb k last_line low); stations = c.stations; clock = c.clock; ticks = c.ticks; busy = c.busy; few = c.few }

-- No tick passes.
counted_quiet : {n k : ℕ} {past : List (List Service)} {h later : History} {r : Rerun} → Counted n k past h r → later.clock ≡ h.clock → Counted n k (past ++ []) later r
counted_quiet c same = rw append-nil (record { line = c.line; stations = c.stations; clock = same ∙ c.clock; ticks = c.ticks; busy = c.busy; few = c.few })

-- A tick passes.
module _ {n k : ℕ} {past : List (List Service)} {h : History} {r : Rerun} (c : Counted n k past h r) (room : length past < most32) (entries : List Service) where
  abbrev now : List (List Service)
  now = past ++ (entries ∷ [])

  one_longer : length now ≡ length past + 1
  one_longer = length-append past (entries ∷ [])

  busy_now : (j : ℕ) → cond (is_busy j entries) (one_more (busy_ticks j past)) (busy_ticks j past) ≡ busy_ticks j now
  busy_now j = rw (busy_more j past entries, one_more_lem (busy_ticks j past) (omega (arith, c.few j)))

  few_now : (j : ℕ) → busy_ticks j now ≤ length now
  few_now j = rw (busy_more j past entries) (by_cond (λ (x : ℕ). x ≤ length now) (is_busy j entries) (omega (arith, c.few j, one_longer)) (omega (arith, c.few j, one_longer)))

  counted_tick : {later : History} (here : List Bool) → here ≡ upward 1 max_stations (λ j. is_busy j entries)
      → later.clock ≡ h.clock + 1 → Counted n k now later (tick_passed here r)
  unfolding tick_passed
  counted_tick here e next =
      record {
        line = c.line;
        stations = c.stations;
        clock = omega (arith, next, c.clock, one_longer);
        ticks = rw (c.ticks, one_more_lem (length past) room, one_longer);
        busy =
            rw (c.busy, e, counted_upward 1 max_stations (λ j. is_busy j entries) (λ j. busy_ticks j past))
            (upward_from 1 max_stations (λ j. cond (is_busy j entries) (one_more (busy_ticks j past)) (busy_ticks j past)) (λ j. busy_ticks j now)
            (λ j low high. busy_now j));
        few = few_now;
      }

-- ---- one line
-- What its call gives, and the ticks, one or none, that it passes.
abbrev gives : List ℕ → Line → Result
gives image line = perform (call_of line) image lent_reply

abbrev passing : List ℕ → Line → List (List Service)
passing image line = during_call (call_of line) image (gives image line).number

may_call : (line : Line) (result : Result) → Allowed (call_of line) result
unfolding call_of
may_call (offered due_in ranks costs given ticket) result = tt
may_call (advanced ticket) result = tt

-- No line has disagreed so far: the image is that of a run from a fresh cabinet, and its ticks are counted.
record Running (n k : ℕ) (past : List (List Service)) (s : Ran) : Type 0 where
  history : History
  kept : Invariant (record { image = s.image; history = history })
  figures : Counted n k past history s.rerun
  agreed : s.rerun.differs ≡ 0

module _ {n k : ℕ} {past : List (List Service)} {s : Ran} (running : Running n k past s) where
  abbrev h : History
  h = running.history

  abbrev run : Run
  run = record { image = s.image; history = h }

  valid : Valid (decode s.image)
  valid = subst Valid (sym (says run running.kept)) (sound_valid (state_of h) running.kept.is_sound)

  -- Few ticks have passed, since the clock ends.
  room : length past < most32
  room = unfold state_of in omega (arith, running.kept.is_sound.facts.clock, running.figures.clock)

  abbrev here : List Bool
  here = occupied (decode s.image).orders

  counted_line : (line : Line) (number : ℕ)
      → Counted n k (past ++ during_call (call_of line) s.image number) (feed (call_of line) number h) (after_line line number here s.rerun)
  unfolding call_of feed after_line
  counted_line (offered due_in ranks costs given ticket) zero = counted_quiet running.figures (same_clock _ h)
  counted_line (offered due_in ranks costs given ticket) (suc other) = counted_quiet running.figures refl
  counted_line (advanced ticket) zero =
      counted_tick running.figures room (starts (decode s.image)).services here (occupied_is (decode s.image) valid) (advanced_clock h)
  counted_line (advanced ticket) (suc other) = counted_quiet running.figures refl

  module _ (line : Line) where
    running_line : k < last_line → agrees line (gives s.image line) ≡ true → Running n (k + 1) (past ++ passing s.image line) (ran_line s line)
    unfolding ran_line compared_by after_call outcome
    running_line low same =
        record {
          history = feed (call_of line) (gives s.image line).number h;
          kept = invariant_call run running.kept (lent_of line) (may_call line (gives s.image line));
          figures = rw same (counted_next low (counted_line line (gives s.image line).number));
          agreed = rw same;
        }

    differs_here : agrees line (gives s.image line) ≡ false → (ran_line s line).rerun.differs ≡ k
    unfolding ran_line compared_by
    differs_here other = rw other (counted_line line (gives s.image line).number).line

-- ---- all lines
-- The state after a line of the form: its call is made while no line disagrees.
abbrev pub ran_one : Ran → Line → Ran
ran_one s line = cond (is_zero s.rerun.differs) (ran_line s line) (record { rerun = passed_by s.rerun; image = s.image })

-- What is printed for the lines from line k on, where these ticks have passed before.
result_from : ℕ → List (List Service) → ℕ → List ℕ → List Line → List ℕ
result_from n past k image lines =
    let differs = first_difference k image lines in
    let ticks = past ++ during_calls image (map lent_of lines) in
    cond (is_zero differs) (same_lines (length ticks) (busy_of n ticks)) (differs_line differs)

module _ (n : ℕ) (past : List (List Service)) (k : ℕ) (image : List ℕ) where
  result_none : result_from n past k image [] ≡ same_lines (length past) (busy_of n past)
  unfolding result_from first_difference
  result_none = rw append-nil

  result_agrees : (line : Line) (later : List Line) → agrees line (gives image line) ≡ true
      → result_from n past k image (line ∷ later) ≡ result_from n (past ++ passing image line) (k + 1) (gives image line).image later
  unfolding result_from first_difference
  result_agrees line later e = rw (e, append_assoc)

  result_differs : (line : Line) (later : List Line) → 1 ≤ k → agrees line (gives image line) ≡ false → result_from n past k image (line ∷ later) ≡ differs_line k
  unfolding result_from first_difference
  result_differs line later some e = rw (e, ne_eqb k 0 (λ z. omega arith))

end_same : {n k : ℕ} {past : List (List Service)} {s : Ran} → n ≤ max_stations → Running n k past s → at_end s.rerun ≡ same_lines (length past) (busy_of n past)
unfolding at_end busy_of
end_same {n} {past = past} high running =
    let c = running.figures in
    rw (running.agreed, c.ticks, c.stations, c.busy, take-upward 1 n max_stations (λ j. busy_ticks j past) high)

end_differs : (r : Rerun) (d : ℕ) → 1 ≤ d → r.differs ≡ d → at_end r ≡ differs_line d
unfolding at_end
end_differs r d some e = rw (e, ne_eqb d 0 (λ z. omega arith))

differs_stays : (lines : List Line) (s : Ran) (d : ℕ) → 1 ≤ d → s.rerun.differs ≡ d → (foldl ran_one s lines).rerun.differs ≡ d
unfolding passed_by
differs_stays [] s d some e = e
differs_stays (line ∷ later) s d some e = differs_stays later (ran_one s line) d some (rw (e, ne_eqb d 0 (λ z. omega arith)))

-- The lines that are left print what they should.
abbrev EndsAs : ℕ → ℕ → List (List Service) → Ran → List Line → Type 0
EndsAs n k past s lines = at_end (foldl ran_one s lines).rerun ≡ result_from n past k s.image lines

module _ {n k : ℕ} {past : List (List Service)} {s : Ran} (running : Running n k past s) (line : Line) (later : List Line) where
  makes_call : at_end (foldl ran_one s (line ∷ later)).rerun ≡ at_end (foldl ran_one (ran_line s line) later).rerun
  makes_call = ap (λ (t : Ran). at_end (foldl ran_one t later).rerun) (rw running.agreed)

  ends_agrees : agrees line (gives s.image line) ≡ true → EndsAs n (k + 1) (past ++ passing s.image line) (ran_line s line) later → EndsAs n k past s (line ∷ later)
  unfolding ran_line
  ends_agrees e rest = makes_call ∙ rest ∙ sym (result_agrees n past k s.image line later e)

  ends_differs : 1 ≤ k → agrees line (gives s.image line) ≡ false → EndsAs n k past s (line ∷ later)
  ends_differs some e =
      makes_call
      ∙ end_differs (foldl ran_one (ran_line s line) later).rerun k some (differs_stays later (ran_line s line) k some (differs_here running line e))
      ∙ sym (result_differs n past k s.image line later some e)

counted_result : (n : ℕ) → n ≤ max_stations → (lines : List Line) (k : ℕ) (past : List (List Service)) (s : Ran) → Running n k past s
    → 1 ≤ k → k + length lines ≤ last_line → EndsAs n k past s lines
counted_result n high [] k past s running some counts = end_same high running ∙ sym (result_none n past k s.image)
counted_result n high (line ∷ later) k past s running some counts =
    elim (test (agrees line (gives s.image line))) [
      | inl e ↦
          let next = running_line running line (omega arith) e in
          ends_agrees running line later e (counted_result n high later (k + 1) (past ++ passing s.image line) (ran_line s line) next (omega arith) (omega arith))
      | inr e ↦ ends_differs running line later some e
    ]

-- ---- from the first line on
abbrev pub opened : List ℕ → ℕ → Ran
opened image n = record { rerun = opened_with n begun.rerun; image = (open_call image n lent_reply).image }

result_whole : (n : ℕ) (calls : List Line) → result_from n [] 2 (encode (fresh n)) calls ≡ result_of n calls
unfolding result_from result_of differs_at ticks_of
result_whole n calls = refl

module _ (image : List ℕ) (n : ℕ) (whole : length image ≡ image_size) (low : 1 ≤ n) (high : n ≤ max_stations) where
  begins : Invariant (record { image = (opened image n).image; history = History.begun n })
  unfolding started
  begins = invariant_started image n lent_reply low high whole refl

  opened_image : (opened image n).image ≡ encode (fresh n)
  opened_image = begins.image_is ∙ ap encode (sym (begun_is n))

  running_opened : Running n 2 [] (opened image n)
  unfolding History.begun opened_with next_line begun upward busy_ticks only
  running_opened =
      record {
        history = History.begun n;
        kept = begins;
        figures = record { line = refl; stations = refl; clock = refl; ticks = refl; busy = refl; few = λ j. omega arith };
        agreed = refl;
      }

  pub opened_result : (calls : List Line) → 2 + length calls ≤ last_line → at_end (foldl ran_one (opened image n) calls).rerun ≡ result_of n calls
  opened_result calls counts =
      counted_result n high calls 2 [] (opened image n) running_opened (omega arith) counts
      ∙ ap (λ (image : List ℕ). result_from n [] 2 image calls) opened_image
      ∙ result_whole n calls
