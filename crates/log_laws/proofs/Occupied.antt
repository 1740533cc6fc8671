-- On a valid state a station is busy after the starts exactly where a live order is, waiting or in service: the starts leave no idle station with a waiting
-- order, and a busy station serves a live order that is there.
use mathlib.Core.Path.{◌≡◌, refl, sym, ◌∙◌}
use mathlib.Core.Logic.{inl, inr}
use mathlib.Core.Bool.{Bool, true, false, true≢false}
use Prim.Native.Nat.{ℕ, ◌≤◌}
use native.Mathlib.Omega.{arith}
use lib.Dec.{eqb}
use borrow.Author.Tests.{eq-eqb, ne_eqb}
use Rattle.model.specs.declared.Order.{Order}
use Rattle.model.specs.Limits.{max_stations}
use Rattle.model.specs.Lists.{any, upward}
use Rattle.model.specs.State.{State}
use Rattle.model.specs.Tick.{starts}
use Rattle.lists.proofs.Fills.{upward_from}
use Rattle.schedule.specs.Valid.{◌∈◌, serving, Valid}
use Rattle.schedule.proofs.Laws.{same_ticket}
use Rattle.schedule.proofs.Starts.{valid_starts, ready_starts}
use Rattle.image_laws.proofs.Tests.{Says, eqb_says, any_says}
use Rattle.log_model.specs.Rerun.{is_busy}
use Rattle.log_model.specs.Reading.{occupied}

abbrev some_at : State → ℕ → Bool
some_at s k = any (λ (o : Order). eqb o.station k) s.orders

module _ (s : State) (valid : Valid s) (k : ℕ) where
  some_says : Says (some_at s k) ((o : Order) × (o ∈ s.orders) × (o.station ≡ k))
  some_says = any_says (λ (o : Order). eqb o.station k) (λ o. o.station ≡ k) (λ o. eqb_says o.station k) s.orders

  same_orders : (starts s).orders ≡ s.orders
  unfolding starts
  same_orders = refl

  some_busy : (o : Order) → o ∈ s.orders → o.station ≡ k → 1 ≤ (serving (starts s) k).ticket
  some_busy o m e = rw e at (ready_starts s valid o (rw same_orders m))

  none_idle : ((o : Order) → o ∈ s.orders → o.station ≡ k → ⊥) → (serving (starts s) k).ticket ≡ 0
  none_idle nobody = elim ((valid_starts s valid).service k) [ inl e ↦ same_ticket e | inr w ↦ absurd (nobody w.order (rw same_orders at w.live) w.here) ]

  busy_where_some : some_at s k ≡ is_busy k (starts s).services
  busy_where_some = go (some_at s k) refl
    where
      go : (b : Bool) → some_at s k ≡ b → b ≡ is_busy k (starts s).services
      go true e = let f = some_says.tells e in rw (ne_eqb (serving (starts s) k).ticket 0 (λ z. omega (arith, some_busy f.0 f.1 f.2)))
      go false e = rw (eq-eqb (serving (starts s) k).ticket 0 (none_idle (λ o m h. true≢false (sym (some_says.passes (o, m, h)) ∙ e))))

pub occupied_is : (s : State) → Valid s → occupied s.orders ≡ upward 1 max_stations (λ k. is_busy k (starts s).services)
unfolding occupied
occupied_is s valid = upward_from 1 max_stations (some_at s) (λ k. is_busy k (starts s).services) (λ k low high. busy_where_some s valid k)
