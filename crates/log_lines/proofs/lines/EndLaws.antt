-- What a line that has ended comes to, by what was found of it.
use mathlib.Core.Path.{◌≡◌, refl}
use mathlib.Core.Bool.{true, false, not, ◌||◌}
use mathlib.Core.List.{List, append-nil}
use Prim.Native.Nat.{ℕ, ◌-◌, ◌≤◌}
use native.Mathlib.Omega.{arith}
use lib.ListN.{length, replicate, length-append, length-replicate}
use borrow.Author.Tests.{eq-eqb, ne_eqb, ltb-false}
use Rattle.std.specs.Prelude.{Some, None}
use Rattle.model.specs.Limits.{max_stations}
use Rattle.model.specs.Lists.{is_zero}
use Rattle.model.specs.Calls.{open_call}
use Rattle.lists.proofs.Tests.{both_false}
use Rattle.log_model.specs.Lines.{Line, offered, advanced, to_eight, call_of}
use Rattle.log_model.specs.Rerun.{lent_reply, agrees}
use Rattle.log_model.specs.Reading.{Ran, settled, refused_here, passed_by, opened_with, first_line, after_line, ran_line, call_line, line_ended}
use Rattle.log_lines.specs.declared.fields.Recorded.{Recorded}
use Rattle.log_lines.specs.Recorded.{record_of, call_in, stations_in, line_as}
use Rattle.log_lines.proofs.fields.ReadingLaws.{none_case, some_case}

-- The call of what a line records is that of the line: eight ranks and costs have no zeros to come.
eight_twice : (l : List ℕ) → to_eight (to_eight l) ≡ to_eight l
eight_twice l =
    let full : max_stations - length (to_eight l) ≡ 0 = omega (arith, length-append l (replicate (max_stations - length l) 0), length-replicate {A = ℕ} (max_stations - length l) 0) in
    rw full (append-nil (to_eight l))

runs_as : (s : Ran) (line : Line) → ran_line s (line_as (record_of line)) ≡ ran_line s line
unfolding ran_line call_of agrees after_line
runs_as s (offered due_in ranks costs number ticket) = rw (eight_twice ranks, eight_twice costs)
runs_as s (advanced ticket) = refl

module _ (s : Ran) (line : List ℕ) where
  pub first_refused : stations_in line ≡ None → record { rerun = refused_here s.rerun; image = s.image } ≡ first_line s line
  unfolding first_line stations_in
  first_refused e = rw (none_case _ _ e)

  pub first_opens : {n : ℕ} → stations_in line ≡ Some n → record { rerun = opened_with n s.rerun; image = (open_call s.image n lent_reply).image } ≡ first_line s line
  unfolding first_line stations_in
  first_opens e = let form = some_case _ _ _ e in rw (form.0, form.1)

  pub call_refused : call_in s.rerun.stations line ≡ None → record { rerun = refused_here s.rerun; image = s.image } ≡ call_line s line
  unfolding call_line call_in
  call_refused e = rw (none_case _ _ e)

  module _ {call : Recorded} (e : call_in s.rerun.stations line ≡ Some call) where
    pub call_passed : (s.rerun.differs ≡ 0 → ⊥) → record { rerun = passed_by s.rerun; image = s.image } ≡ call_line s line
    unfolding call_line call_in
    call_passed some = rw ((some_case _ _ _ e).0, ne_eqb s.rerun.differs 0 some)

    pub call_made : s.rerun.differs ≡ 0 → ran_line s (line_as call) ≡ call_line s line
    unfolding call_line call_in
    call_made none = rw ((some_case _ _ _ e).0, eq-eqb s.rerun.differs 0 none, ← (some_case _ _ _ e).1) (runs_as s _)

  pub nothing_left : settled s.rerun ≡ true → s ≡ line_ended s line
  unfolding line_ended
  nothing_left done = rw done

  module _ (unsettled : settled s.rerun ≡ false) where
    pub first_ended : s.rerun.line ≡ 1 → first_line s line ≡ line_ended s line
    unfolding line_ended
    first_ended first = rw (unsettled, eq-eqb s.rerun.line 1 first)

    pub later_ended : (s.rerun.line ≡ 1 → ⊥) → call_line s line ≡ line_ended s line
    unfolding line_ended
    later_ended later = rw (unsettled, ne_eqb s.rerun.line 1 later)

    pub few_stations : s.rerun.stations ≤ max_stations
    unfolding settled
    few_stations = ltb-false max_stations s.rerun.stations (both_false (is_zero s.rerun.line || not (is_zero s.rerun.refused)) _ unsettled).1
