-- A use of progress, at 2 stations and at 8: as many advances as an order has ticks to its due tick are all done and bring it out.
use mathlib.Core.Path.{◌≡◌, refl, sym, ◌∙◌}
use mathlib.Core.Logic.{inl, inr}
use mathlib.Core.List.Memᴰ
use mathlib.Core.List.{[], ◌∷◌}
use mathlib.Core.Option.{some, some-injective}
use Prim.Native.Nat.{ℕ, zero, suc, ◌≤◌}
use native.Mathlib.Omega.{arith}
use lib.ListN.{replicate}
use Rattle.model.specs.History.{Entry}
use Rattle.model.specs.Runs.{started, outcome, after_call, after_all}
use Rattle.model.specs.Table.{read_row}
use Rattle.model.specs.Cases.{order, X, Y}
use Rattle.model.specs.FormatCases.{by_format}
use Rattle.schedule.specs.Valid.{◌∈◌}
use Rattle.claims.specs.Progress.{advances, AllWhole, Progressed}
use Rattle.uses.specs.DefiniteLists.{some_image, some_reply, opened, halfway_calls, eight_calls, all_stations, eight_format_calls, halfway, eight, eight_formats}
use Rattle.uses.proofs.DefiniteLists.{entry, halfway_allowed, eight_allowed, eight_formats_allowed}
use Rattle.claims.proofs.Claims.{claims}
use Rattle.uses.proofs.Words.{Figure, of_two}

all_whole : (count : ℕ) → AllWhole (replicate count some_reply)
all_whole zero reply m = absurd (Memᴰ.not-nil m)
all_whole (suc count) reply m = elim (Memᴰ.cases_cons m) [ inl i ↦ rw i refl | inr r ↦ all_whole count reply r ]

-- Of two orders with the tickets 1 and 2, whatever is out at some tick and has the ticket 2 is the second.
second_is : (x y : Entry) (tick out : ℕ) → x.ticket ≡ 1 → y.out ≡ some out → (e : Entry) → e ∈ x ∷ y ∷ [] → e.ticket ≡ 2 → e.out ≡ some tick → tick ≡ out
second_is x y tick out one is =
    of_two (λ (e : Entry). e.ticket ≡ 2 → e.out ≡ some tick → tick ≡ out) x y (λ two q. absurd (omega (arith, one, two))) (λ two q. some-injective tick out (sym q ∙ is))

-- ---- N = 2: Y has six ticks to its due tick, and is out at 7
y_progressed : Progressed halfway (entry halfway 1) (replicate 6 some_reply)
unfolding read_row opened halfway_calls halfway X Y started after_call outcome after_all
y_progressed = claims.progress 2 (omega arith) (omega arith) some_image refl some_reply refl halfway_calls (unfold opened in halfway_allowed) (entry halfway 1) (Memᴰ.tail (Memᴰ.head refl)) refl (replicate 6 some_reply) (all_whole 6) refl

y_all_done : Figure 0 × Figure 0 × Figure 0 × Figure 0 × Figure 0 × Figure 0
unfolding read_row opened halfway_calls halfway X Y started after_call outcome after_all
y_all_done =
    let d = y_progressed.all_done in
    (d.0, d.1.0, d.1.1.0, d.1.1.1.0, d.1.1.1.1.0, d.1.1.1.1.1.0)

y_out_at : y_progressed.out.tick ≡ 7
unfolding read_row opened halfway_calls halfway X Y started after_call outcome after_all
y_out_at =
    let o = y_progressed.out in
    let after = after_all halfway (advances (replicate 6 some_reply)) in
    second_is (entry after 0) (entry after 1) o.tick 7 refl refl o.later o.there o.named o.is_out

y_by_due : y_progressed.out.tick ≤ 7
unfolding read_row opened halfway_calls halfway X Y started after_call outcome after_all
y_by_due = y_progressed.out.by_due

-- ---- N = 8: the second order has one tick to its due tick, and is out at 9
second_progressed : Progressed eight (entry eight 1) (replicate 1 some_reply)
unfolding read_row opened eight_calls eight order started after_call outcome after_all
second_progressed = claims.progress 8 (omega arith) (omega arith) some_image refl some_reply refl eight_calls (unfold opened in eight_allowed) (entry eight 1) (Memᴰ.tail (Memᴰ.head refl)) refl (replicate 1 some_reply) (all_whole 1) refl

second_all_done : Figure 0
unfolding read_row opened eight_calls eight order started after_call outcome after_all
second_all_done = second_progressed.all_done.0

second_out_at : second_progressed.out.tick ≡ 9
unfolding read_row opened eight_calls eight order started after_call outcome after_all
second_out_at =
    let o = second_progressed.out in
    let after = after_all eight (advances (replicate 1 some_reply)) in
    second_is (entry after 0) (entry after 1) o.tick 9 refl refl o.later o.there o.named o.is_out

second_by_due : second_progressed.out.tick ≤ 9
unfolding read_row opened eight_calls eight order started after_call outcome after_all
second_by_due = second_progressed.out.by_due

-- ---- N = 8, after an order by format: the other has one tick to its due tick, and is out at 9
format_progressed : Progressed eight_formats (entry eight_formats 1) (replicate 1 some_reply)
unfolding read_row opened eight_format_calls eight_formats order by_format all_stations started after_call outcome after_all
format_progressed = claims.progress 8 (omega arith) (omega arith) some_image refl some_reply refl eight_format_calls (unfold opened in eight_formats_allowed) (entry eight_formats 1) (Memᴰ.tail (Memᴰ.head refl)) refl (replicate 1 some_reply) (all_whole 1) refl

format_all_done : Figure 0
unfolding read_row opened eight_format_calls eight_formats order by_format all_stations started after_call outcome after_all
format_all_done = format_progressed.all_done.0

format_by_due : format_progressed.out.tick ≤ 9
unfolding read_row opened eight_format_calls eight_formats order by_format all_stations started after_call outcome after_all
format_by_due = format_progressed.out.by_due
