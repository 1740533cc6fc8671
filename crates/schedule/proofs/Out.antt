-- The ticket out: what a tick does at station N decides it.
use mathlib.Core.Path.{◌≡◌, refl, sym, ap, subst, ◌∙◌}
use mathlib.Core.Logic.{◌⊎◌, inl, inr}
use mathlib.Core.List.{List, map}
use Prim.Native.Nat.{ℕ, ◌≤◌}
use native.Mathlib.Omega.{arith}
use borrow.Author.Tests.{ne_eqb}
use Rattle.model.specs.declared.Order.{Order}
use Rattle.model.specs.declared.Service.{Service}
use Rattle.model.specs.Lists.{at}
use Rattle.model.specs.State.{State, idle}
use Rattle.model.specs.Tick.{view, one_less, ticket_out, move_to, starts, tick, advance, advance_out}
use Rattle.schedule.specs.Valid.{◌∈◌, serving, Busy, Valid}
use Rattle.schedule.specs.Pass.{pass_to, moved, AtPass}
use Rattle.schedule.specs.Out.{Has, OutAsAsked, TicketOutAsAsked}
use Rattle.schedule.proofs.Laws.{same_ticket, same_left, eqb_cases, unique}
use Rattle.schedule.proofs.Starts.{starts_n, valid_starts}
use Rattle.schedule.proofs.Pass.{ticked_plain, moved_ticket, Onward, onward, pass_in_lem, passes}
use Rattle.schedule.proofs.Course.{advance_is}

module _ (s : State) (valid : Valid s) where
  abbrev now : State
  now = starts s

  abbrev ticked : List Service
  ticked = map one_less now.services

  here : Valid now
  here = valid_starts s valid

  same_orders : now.orders ≡ s.orders
  unfolding starts
  same_orders = refl

  at_last : AtPass ticked now s.n
  at_last = (passes ticked now here (ticked_plain now.services)).stations s.n

  out_is : advance_out s ≡ ticket_out s.n ticked
  unfolding advance_out tick
  out_is = refl

  out_spent : (at idle ticked s.n).left ≡ 0 → advance_out s ≡ (at idle ticked s.n).ticket
  unfolding ticket_out
  out_spent z = out_is ∙ rw z

  out_unspent : 1 ≤ (at idle ticked s.n).left → advance_out s ≡ 0
  unfolding ticket_out
  out_unspent h = out_is ∙ rw (ne_eqb (at idle ticked s.n).left 0 (λ z. omega arith))

  entry_ticket : (k : ℕ) → (at idle ticked k).ticket ≡ (serving now k).ticket
  entry_ticket k = (ticked_plain now.services).tickets k

  -- the ticket out is 0, or that of the order whose service at station N ends
  data Which : Type 0 where
    nobody : advance_out s ≡ 0 → ((o : Order) → o ∈ s.orders → (at idle ticked s.n).ticket ≡ o.ticket → (at idle ticked s.n).left ≡ 0 → ⊥) → Which
    one : (w : Busy now s.n) → advance_out s ≡ w.order.ticket → ((o : Order) → o ∈ (pass_to ticked now).orders → o.ticket ≡ w.order.ticket → ⊥) → Which

  which : Which
  which = go at_last
    where
      go : AtPass ticked now s.n → Which
      go (AtPass.rests e q) =
          let z : (at idle ticked s.n).ticket ≡ 0 = entry_ticket s.n ∙ same_ticket e in
          nobody (out_spent (omega (arith, (ticked_plain now.services).less s.n, same_left e)) ∙ z) (λ o m t l. omega (arith, z, (valid.fit o m).named))
      go (AtPass.goes_on w h q m) = nobody (out_unspent h) (λ o m t l. omega (arith, h))
      go (AtPass.ends w z q onward gone) = one w (out_spent z ∙ entry_ticket s.n ∙ w.served) (gone (sym (starts_n s)))

  -- an order whose service at station N does not end is live after the advance
  still : (o : Order) → o ∈ s.orders → ((at idle ticked s.n).ticket ≡ o.ticket → (at idle ticked s.n).left ≡ 0 → ⊥) → Has (advance s) o.ticket
  unfolding move_to view
  still o m stays =
      subst (λ (x : State). Has x o.ticket) (sym (advance_is s valid))
      (record { order = moved ticked o; live = pass_in_lem ticked now (subst (λ (l : List Order). o ∈ l) (sym same_orders) m) (omega (arith, within, starts_n s)); named = moved_ticket ticked o })
    where
      high : o.station ≤ s.n
      high = (valid.fit o m).high

      -- from station N it does not leave
      go : (o.station ≡ s.n → ⊥) ⊎ (o.station ≡ s.n) → Onward ticked (view o) → (moved ticked o).station ≤ s.n
      go e (Onward.stays q) = omega (arith, high, q)
      go (inl e) (Onward.leaves q t z) = omega (arith, high, q)
      go (inr e) (Onward.leaves q t z) = absurd (stays (ap (λ (k : ℕ). (at idle ticked k).ticket) (sym e) ∙ t) (ap (λ (k : ℕ). (at idle ticked k).left) (sym e) ∙ z))

      within : (moved ticked o).station ≤ s.n
      within = go (elim (eqb_cases o.station s.n) [ inl e ↦ inr e.1 | inr e ↦ inl e.1 ]) (onward ticked (view o))

pub ticket_out_as_asked : TicketOutAsAsked
ticket_out_as_asked s valid = go (which s valid)
  where
    go : Which s valid → OutAsAsked s
    go (nobody z none) =
        record {
          was_live = λ h. absurd (omega (arith, z));
          at_last = λ o m e. absurd (omega (arith, z, (valid.fit o m).named));
          is_out = λ h. absurd (omega (arith, z));
          others_live = λ o m e. still s valid o m (none o m);
        }
    go (one w e gone) =
        let live : w.order ∈ s.orders = subst (λ (l : List Order). w.order ∈ l) (same_orders s valid) w.live in
        record {
          was_live = λ h. record { order = w.order; live = live; named = sym e };
          at_last = λ o m q. ap (λ (x : Order). x.station) (unique s.orders valid.rising m live (q ∙ e)) ∙ w.here;
          is_out = λ h o m q. gone o (subst (λ (x : State). o ∈ x.orders) (advance_is s valid) m) (q ∙ e);
          others_live = λ o m q. still s valid o m (λ t z. q (sym t ∙ entry_ticket s valid s.n ∙ w.served ∙ sym e));
        }
