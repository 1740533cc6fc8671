-- A use of the way of each order through the stations, on definite images. X is in service at station 1 when Y is offered: Y waits, is in service at station 1
-- for one tick, waits at station 2 for X, is in service there for two ticks, and is out. At 8 stations an order is in service for a tick at each in turn.
use mathlib.Core.Path.{◌≡◌, refl, subst}
use mathlib.Core.Logic.{◌≢◌}
use mathlib.Core.List.{List, [], ◌∷◌, ◌++◌}
use Prim.Native.Nat.{ℕ, zero, suc, ◌-◌, ◌≤◌, ◌<◌}
use native.Mathlib.Omega.{arith}
use lib.ListN.{replicate}
use borrow.Author.Tests.{eqb-false}
use Rattle.model.specs.declared.Service.{Service}
use Rattle.model.specs.Lists.{at}
use Rattle.model.specs.State.{idle}
use Rattle.model.specs.Calls.{offer_call, opening, quoting, quoting_format, offering_format}
use Rattle.model.specs.Runs.{Lent, started, outcome, after_call, after_all, during_calls}
use Rattle.model.specs.Table.{read_row}
use Rattle.model.specs.Cases.{order, X, Y}
use Rattle.model.specs.FormatCases.{by_format, two_stations}
use Rattle.schedule.specs.Course.{Course, waits, begins, works, leaves, is_out, Nowhere, OnlyAt}
use Rattle.claims.specs.Images.{NotReopened}
use Rattle.claims.proofs.Claims.{claims}
use Rattle.uses.specs.DefiniteLists.{some_image, some_reply, opened, whole, ticks, one_calls, one, Z, long_calls, long, P}
use Rattle.uses.proofs.Words.{Figure}
use Rattle.uses.proofs.ByHistory.{one_allowed, long_allowed}
use Rattle.uses.proofs.Offers.{one_bytes}

-- ---- what a course says of its next tick
module _ {n t : ℕ} {costs : List ℕ} {k : ℕ} {entries : List Service} {later : List (List Service)} where
  -- In service: with more ticks to go, and with one.
  works_on : {left : ℕ} → Course n t costs k (suc (suc left)) (entries ∷ later) → OnlyAt t k entries × Course n t costs k (suc left) later
  works_on (works there rest) = (there, rest)

  ends : Course n t costs k 1 (entries ∷ later) → OnlyAt t k entries × Course n t costs (suc k) 0 later
  ends (leaves there rest) = (there, rest)

  begun : (left : ℕ) → 1 ≤ left → Course n t costs k left (entries ∷ later) → (at idle entries k).ticket ≡ t
  begun zero some c = absurd (omega (arith, some))
  begun (suc zero) some c = (ends c).0.there
  begun (suc (suc left)) some c = (works_on c).0.there

  -- Not in service before it: the station serves another, so that the order waits; the order, so that it begins; or the order is past the last station.
  waits_here : Course n t costs k 0 (entries ∷ later) → k ≤ n → (at idle entries k).ticket ≢ t → (k ≤ n) × Nowhere t entries × Course n t costs k 0 later
  waits_here (waits low nowhere rest) within other = (low, nowhere, rest)
  waits_here (begins low some rest) within other = absurd (other (begun (at 0 costs k) some rest))
  waits_here (is_out past nowhere rest) within other = absurd (omega (arith, past, within))

  begins_here : Course n t costs k 0 (entries ∷ later) → (at idle entries k).ticket ≡ t → (k ≤ n) × (1 ≤ at 0 costs k) × Course n t costs k (at 0 costs k) (entries ∷ later)
  begins_here (waits low nowhere rest) served = absurd (nowhere k served)
  begins_here (begins low some rest) served = (low, some, rest)
  begins_here (is_out past nowhere rest) served = absurd (nowhere k served)

  out_here : Course n t costs k 0 (entries ∷ later) → n < k → (n < k) × Nowhere t entries × Course n t costs k 0 later
  out_here (waits low nowhere rest) beyond = absurd (omega (arith, low, beyond))
  out_here (begins low some rest) beyond = absurd (omega (arith, low, beyond))
  out_here (is_out past nowhere rest) beyond = (past, nowhere, rest)

-- ---- N = 2: Y, with an open and a quote among the calls after it, a quote by format, and an order of no format
two_later : List Lent
unfolding by_format two_stations
two_later = whole (opening 9) ∷ whole (quoting Z) ∷ whole (quoting_format (by_format 6 100 0 two_stations)) ∷ whole (offering_format (by_format 11 20 0 two_stations)) ∷ ticks 7

-- What the stations serve during each tick, with the ticks to go: X is ticket 1, Y ticket 2.
abbrev two_at : Service → Service → List Service
two_at first second = first ∷ second ∷ replicate 6 idle

abbrev serves : ℕ → ℕ → Service
serves ticket left = record { ticket = ticket; left = left }

abbrev two_ticks : List (List Service)
two_ticks =
    two_at (serves 1 1) idle ∷ two_at (serves 2 1) (serves 1 3) ∷ two_at idle (serves 1 2) ∷ two_at idle (serves 1 1) ∷ two_at idle (serves 2 2) ∷ two_at idle (serves 2 1) ∷ two_at idle idle ∷ []

two_during : during_calls (offer_call one.image (Y 7 5) some_reply).image two_later ≡ two_ticks
unfolding read_row opened one_calls one two_later X Y Z by_format two_stations started after_call outcome after_all
two_during = refl

abbrev TwoCourse : List (List Service) → Type 0
TwoCourse ticks = Course 2 2 (1 ∷ 2 ∷ replicate 6 0) 1 0 ticks

-- Tick by tick: the station it is at, where it begins its cost there, and what stations 1 and 2 serve.
abbrev TwoFigures : Type 0
TwoFigures =
    ((1 ≤ 2) × (◌≢◌ {A = ℕ} 1 2) × (◌≢◌ {A = ℕ} 0 2))
    × ((1 ≤ 2) × (1 ≤ 1) × Figure 2 × (◌≢◌ {A = ℕ} 1 2))
    × ((2 ≤ 2) × (◌≢◌ {A = ℕ} 0 2) × (◌≢◌ {A = ℕ} 1 2))
    × ((2 ≤ 2) × (◌≢◌ {A = ℕ} 0 2) × (◌≢◌ {A = ℕ} 1 2))
    × ((2 ≤ 2) × (1 ≤ 2) × Figure 2 × (◌≢◌ {A = ℕ} 0 2)) × (Figure 2 × (◌≢◌ {A = ℕ} 0 2))
    × ((2 < 3) × (◌≢◌ {A = ℕ} 0 2) × (◌≢◌ {A = ℕ} 0 2))

two_way : TwoCourse two_ticks → TwoFigures
two_way c =
    let a = waits_here c (omega arith) (eqb-false 1 2 refl) in
    let b = begins_here a.2 refl in
    let c1 = ends b.2 in
    let d = waits_here c1.1 (omega arith) (eqb-false 1 2 refl) in
    let e = waits_here d.2 (omega arith) (eqb-false 1 2 refl) in
    let f = begins_here e.2 refl in
    let g = works_on f.2 in
    let h = ends g.1 in
    let o = out_here h.1 (omega arith) in
    ((a.0, a.1 1, a.1 2), (b.0, b.1, c1.0.there, c1.0.nowhere_else 2 (eqb-false 2 1 refl)), (d.0, d.1 1, d.1 2), (e.0, e.1 1, e.1 2), (f.0, f.1, g.0.there, g.0.nowhere_else 1 (eqb-false 1 2 refl)), (h.0.there, h.0.nowhere_else 1 (eqb-false 1 2 refl)), (o.0, o.1 1, o.1 2))

two_not_reopened : NotReopened (offer_call one.image (Y 7 5) some_reply).image two_later
unfolding read_row opened one_calls one two_later X Y Z by_format two_stations started after_call outcome after_all
two_not_reopened = (eqb-false 14 0 refl, (tt, (tt, (tt, (tt, (tt, (tt, (tt, (tt, (tt, (tt, tt)))))))))))

-- Of every image of bytes, and after every list.
two_of_images : TwoFigures
unfolding read_row opened one_calls one X Y Z started after_call outcome after_all
two_of_images = two_way (subst TwoCourse two_during (claims.served one.image one_bytes (Y 7 5) some_reply refl two_later two_not_reopened))

two_after_lists : TwoFigures
unfolding read_row opened one_calls one X Y Z started after_call outcome after_all
two_after_lists = two_way (subst TwoCourse two_during (claims.served_over_runs 2 (omega arith) (omega arith) some_image refl some_reply refl one_calls one_allowed (Y 7 5) some_reply refl two_later two_not_reopened))

-- ---- N = 8: with another order a station ahead, a tick at each station, and out
eight_later : List Lent
eight_later = ticks 9

-- It is at station k in tick k, and the other at the next.
abbrev eight_at : ℕ → List Service
eight_at k = replicate (k - 1) idle ++ (serves 2 1 ∷ serves 1 1 ∷ replicate (7 - k) idle)

abbrev eight_ticks : List (List Service)
eight_ticks = eight_at 1 ∷ eight_at 2 ∷ eight_at 3 ∷ eight_at 4 ∷ eight_at 5 ∷ eight_at 6 ∷ eight_at 7 ∷ (replicate 7 idle ++ (serves 2 1 ∷ [])) ∷ replicate 8 idle ∷ []

eight_during : during_calls (offer_call long.image (P 10) some_reply).image eight_later ≡ eight_ticks
unfolding read_row opened long_calls long eight_later order P started after_call outcome after_all
eight_during = refl

abbrev EightCourse : List (List Service) → Type 0
EightCourse ticks = Course 8 2 (replicate 8 1) 1 0 ticks

-- A tick at a station that serves it and where its cost is 1.
tick_at : {n t : ℕ} {costs : List ℕ} {k : ℕ} {entries : List Service} {later : List (List Service)} → Course n t costs k 0 (entries ∷ later) → (at idle entries k).ticket ≡ t → at 0 costs k ≡ 1 → (k ≤ n) × OnlyAt t k entries × Course n t costs (suc k) 0 later
tick_at {n} {t} {costs} {k} {entries} {later} c served one =
    let b = begins_here c served in
    let e = ends (subst (λ (left : ℕ). Course n t costs k left (entries ∷ later)) one b.2) in
    (b.0, e.0, e.1)

abbrev EightFigures : Type 0
EightFigures =
    ((1 ≤ 8) × Figure 2 × (◌≢◌ {A = ℕ} 1 2))
    × ((2 ≤ 8) × Figure 2)
    × ((7 ≤ 8) × Figure 2 × (◌≢◌ {A = ℕ} 1 2))
    × ((8 ≤ 8) × Figure 2 × (◌≢◌ {A = ℕ} 0 2))
    × ((8 < 9) × (◌≢◌ {A = ℕ} 0 2))

eight_way : EightCourse eight_ticks → EightFigures
eight_way c =
    let a = tick_at c refl refl in
    let b = tick_at a.2 refl refl in
    let d = tick_at b.2 refl refl in
    let e = tick_at d.2 refl refl in
    let f = tick_at e.2 refl refl in
    let g = tick_at f.2 refl refl in
    let h = tick_at g.2 refl refl in
    let i = tick_at h.2 refl refl in
    let o = out_here i.2 (omega arith) in
    ((a.0, a.1.there, a.1.nowhere_else 2 (eqb-false 2 1 refl)), (b.0, b.1.there), (h.0, h.1.there, h.1.nowhere_else 8 (eqb-false 8 7 refl)), (i.0, i.1.there, i.1.nowhere_else 7 (eqb-false 7 8 refl)), (o.0, o.1 8))

eight_not_reopened : NotReopened (offer_call long.image (P 10) some_reply).image eight_later
unfolding eight_later
eight_not_reopened = (tt, (tt, (tt, (tt, (tt, (tt, (tt, (tt, (tt, tt)))))))))

eight_after_lists : EightFigures
unfolding read_row opened long_calls long order P started after_call outcome after_all
eight_after_lists = eight_way (subst EightCourse eight_during (claims.served_over_runs 8 (omega arith) (omega arith) some_image refl some_reply refl long_calls long_allowed (P 10) some_reply refl eight_later eight_not_reopened))
