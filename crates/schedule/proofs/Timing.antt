-- The two timing sentences: whoever alone waits at an idle station starts there.
use mathlib.Core.Path.{◌≡◌, refl, sym, ap, subst, ◌∙◌}
use mathlib.Core.Bool.{cond}
use mathlib.Core.List.{List, map}
use Prim.Native.Nat.{ℕ, ◌+◌, ◌<◌}
use native.Mathlib.Omega.{arith}
use lib.Dec.{eqb}
use Rattle.model.specs.declared.Order.{Order}
use Rattle.model.specs.declared.Service.{Service}
use Rattle.model.specs.Limits.{last_ticket}
use Rattle.model.specs.Lists.{at}
use Rattle.model.specs.State.{State, idle}
use Rattle.model.specs.Tick.{one_less, move_to, starts, tick, leave, advance}
use Rattle.model.specs.Admission.{arrival, joined_by, accept}
use Rattle.schedule.specs.Valid.{◌∈◌, serving, cost, Busy, Valid}
use Rattle.schedule.specs.Starts.{AtStart, rests, begins, goes_on}
use Rattle.schedule.specs.Pass.{pass_to, AtPass}
use Rattle.schedule.specs.Accept.{accept_next}
use Rattle.schedule.specs.Timing.{StartsOnceAccepted, StartsOnceMoved}
use Rattle.schedule.proofs.Laws.{same_ticket, same_left, unique, at_map}
use Rattle.schedule.proofs.Starts.{starts_n, at_start, busy_named, waits_idle, valid_starts}
use Rattle.schedule.proofs.Pass.{ticked_plain, passes}
use Rattle.schedule.proofs.Accept.{Origin, old, new, origin, new_in}
use Rattle.schedule.proofs.Course.{valid_accepted, advance_is, valid_advance}

-- an order that alone is at an idle station starts there
alone : (s : State) → Valid s → (k : ℕ) → serving s k ≡ idle → (o : Order) → o ∈ s.orders → o.station ≡ k → ((p : Order) → p ∈ s.orders → p.station ≡ k → p.ticket ≡ o.ticket)
    → serving (starts s) k ≡ record { ticket = o.ticket; left = cost o k }
alone s valid k e o m h only = go (at_start s valid k)
  where
    go : AtStart s k → serving (starts s) k ≡ record { ticket = o.ticket; left = cost o k }
    go (rests _ nobody q) = absurd (nobody o (waits_idle s valid k e o m h))
    go (goes_on w q) = absurd (omega (arith, busy_named s valid k w, same_ticket e))
    go (begins _ p b) =
        let is : p ≡ o = unique s.orders valid.rising b.waits.live m (only p b.waits.live b.waits.here) in
        b.entry ∙ ap (λ (x : Order). record { ticket = x.ticket; left = cost x k }) is

pub starts_once_accepted : StartsOnceAccepted
unfolding accept accept_next arrival joined_by starts
starts_once_accepted s valid b ok free nobody = (refl, alone (accept s b) (valid_accepted s b valid ok) 1 free (arrival s b) (new_in after s b) refl (λ p m h. mine h (origin after s b m)))
  where
    after : ℕ
    after = cond (eqb s.next last_ticket) 0 (s.next + 1)

    mine : {p : Order} → p.station ≡ 1 → Origin after s b p → p.ticket ≡ s.next
    mine h (old o m e) = absurd (nobody o m (ap (λ (x : Order). x.station) e ∙ h))
    mine h (new e) = ap (λ (x : Order). x.ticket) (sym e)

clock_advance : (s : State) → (starts (advance s)).clock ≡ s.clock + 1
unfolding starts advance leave tick
clock_advance s = refl

-- with one tick to go before station N, an order is at the next station after the advance
moves_on : (s : State) → Valid s → (k : ℕ) → k < s.n → (w : Busy (starts s) k) → (serving (starts s) k).left ≡ 1 → move_to (k + 1) w.order ∈ (advance s).orders
unfolding one_less
moves_on s valid k below w one = subst (λ (x : State). move_to (k + 1) w.order ∈ x.orders) (sym (advance_is s valid)) (go ((passes ticked now here (ticked_plain now.services)).stations k))
  where
    now : State
    now = starts s

    here : Valid now
    here = valid_starts s valid

    ticked : List Service
    ticked = map one_less now.services

    spent : (at idle ticked k).left ≡ 0
    spent = omega (arith, same_left (at_map one_less idle refl now.services k))

    go : AtPass ticked now k → move_to (k + 1) w.order ∈ (pass_to ticked now).orders
    go (AtPass.rests e q) = absurd (omega (arith, busy_named now here k w, same_ticket e))
    go (AtPass.goes_on v z q m) = absurd (omega (arith, spent))
    go (AtPass.ends v z q onward gone) =
        let is : v.order ≡ w.order = unique now.orders here.rising v.live w.live (sym v.served ∙ w.served) in
        subst (λ (o : Order). move_to (k + 1) o ∈ (pass_to ticked now).orders) is (onward (omega (arith, starts_n s)))

pub starts_once_moved : StartsOnceMoved
unfolding move_to
starts_once_moved s valid k below w one free only = (clock_advance s, alone (advance s) (valid_advance s valid) (k + 1) free (move_to (k + 1) w.order) (moves_on s valid k below w one) refl only)
