-- Progress: each advance up to an order's due tick is done, since the clock has not come to its end, and at the due tick no order is live that is due then.
use mathlib.Core.Path.{◌≡◌, refl, sym, ap, subst, ◌∙◌}
use mathlib.Core.List.Memᴰ
use mathlib.Core.List.{List, [], ◌∷◌}
use mathlib.Core.Option.{Option, none, some}
use Prim.Native.Nat.{ℕ, ◌+◌, ◌≤◌, ◌<◌}
use native.Mathlib.Omega.{arith}
use lib.ListN.{length}
use Rattle.model.specs.Limits.{last_tick}
use Rattle.model.specs.Layout.{reply_size}
use Rattle.model.specs.Calls.{advancing, perform}
use Rattle.model.specs.History.{Entry, History, advance_in, entry_due}
use Rattle.model.specs.Runs.{Lent, Run, started, outcome, after_call, after_all}
use Rattle.schedule.specs.Valid.{◌∈◌}
use Rattle.claims.specs.Progress.{advances, AllWhole, AllDone, Out, Progress}
use Rattle.runs.proofs.Out.{advanced_clock, stays}
use Rattle.runs.proofs.Invariant.{Invariant, invariant_started, invariant_call, invariant_all}
use Rattle.claims.proofs.Demand3.{due_last, advance_done, in_time, fed_advance}

-- An order of one history in a later one.
pub record Later (order : Entry) (h : History) : Type 0 where
  pub entry : Entry
  pub there : entry ∈ h.orders
  pub named : entry.ticket ≡ order.ticket
  pub due_is : entry_due entry ≡ entry_due order

pub record Onward (run : Run) (order : Entry) (replies : List (List ℕ)) : Type 0 where
  pub all_done : AllDone run (advances replies)
  pub kept : Invariant (after_all run (advances replies))
  pub clock_is : (after_all run (advances replies)).history.clock ≡ run.history.clock + length replies
  pub later : Later order (after_all run (advances replies)).history

module _ (run : Run) (kept : Invariant run) (reply : List ℕ) (whole : length reply ≡ reply_size) (low : run.history.clock < last_tick) where
  abbrev lent : Lent
  lent = record { call = advancing; reply = reply }

  done : (outcome run lent).number ≡ 0
  unfolding outcome perform
  done = advance_done run kept reply whole low

  history_is : (after_call run lent).history ≡ advance_in run.history
  unfolding after_call
  history_is = fed_advance run kept (outcome run lent).number done

pub onward : (replies : List (List ℕ)) (run : Run) → Invariant run → (order e : Entry) → e ∈ run.history.orders → e.ticket ≡ order.ticket → entry_due e ≡ entry_due order → AllWhole replies → run.history.clock + length replies ≤ last_tick → Onward run order replies
unfolding after_all
onward [] run kept order e m named due_is whole room =
    record { all_done = tt; kept = kept; clock_is = omega arith; later = record { entry = e; there = m; named = named; due_is = due_is } }
onward (reply ∷ replies) run kept order e m named due_is whole room =
    let short = whole reply (Memᴰ.head refl) in
    let low : run.history.clock < last_tick = omega (arith, room) in
    let is = history_is run kept reply short low in
    let f = stays run.history kept.history e m in
    let tick = ap (λ (h : History). h.clock) is ∙ advanced_clock run.history in
    let rest = onward replies (after_call run (lent run kept reply short low)) (invariant_call run kept (lent run kept reply short low) tt) order f.0 (subst (λ (h : History). f.0 ∈ h.orders) (sym is) f.1) (f.2 ∙ named) (f.3 ∙ due_is) (λ r q. whole r (Memᴰ.tail q)) (omega (arith, tick, room)) in
    record { all_done = (done run kept reply short low, rest.all_done); kept = rest.kept; clock_is = omega (arith, rest.clock_is, tick); later = rest.later }

-- At its due tick the order is not live.
out : (run : Run) → Invariant run → (order : Entry) → Later order run.history → run.history.clock ≡ entry_due order → Out run order
out run kept order w now = go w.entry.out refl
  where
    go : (x : Option ℕ) → w.entry.out ≡ x → Out run order
    go none q = absurd (let z : ⊥ = omega (arith, ((in_time run kept w.entry w.there).live_in_time q).1, w.due_is, now) in z)
    go (some t) q =
        record { later = w.entry; there = w.there; named = w.named; tick = t; is_out = q; by_due = omega (arith, ((in_time run kept w.entry w.there).out_in_time t q).1, w.due_is) }

pub progress : Progress
progress n low high image image_whole reply reply_whole calls allowed order m live replies whole due_is =
    let run = after_all (started image n reply) calls in
    let kept = invariant_all calls (started image n reply) (invariant_started image n reply low high image_whole reply_whole) allowed in
    let o = onward replies run kept order order m refl refl whole (omega (arith, due_is, due_last run kept order m live)) in
    record { all_done = o.all_done; out = out (after_all run (advances replies)) o.kept order o.later (o.clock_is ∙ due_is) }
