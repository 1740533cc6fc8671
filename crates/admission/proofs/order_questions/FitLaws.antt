-- Bound ticks and margins of the orders that are tried fit 32 bits.
use Prim.Native.Nat.{ℕ}
use mir.Syntax.{w32}
use mir.Val.{SFits}
use Rattle.model.specs.declared.Block.{Block}
use Rattle.model.specs.declared.Order.{Order}
use Rattle.model.specs.State.{State}
use Rattle.model.specs.DelayBound.{bound_tick, margin}
use Rattle.model.specs.Admission.{arrival, joined_by}
use Rattle.schedule.specs.Valid.{◌∈◌}
use Rattle.image_laws.specs.SoundFacts.{SoundState}
use Rattle.call_laws.specs.Considered.{Fitting}
use Rattle.call_laws.proofs.offers.Bounds.{arrival_near, joined_near}
use Rattle.admission.specs.Margins.{MarginFits}
use Rattle.admission.proofs.margins.SignLaws.{difference_fits}

-- A margin that can be had fits.
pub margin_fits : (n : ℕ) (o : Order) → MarginFits n o → SFits w32 (margin n o)
unfolding margin
margin_fits n o f = difference_fits o.due (bound_tick n o) f.above f.below

module _ (s : State) (b : Block) (g : SoundState s) (f : Fitting s b) where
  pub arrival_fits : MarginFits s.n (arrival s b)
  arrival_fits = let h = arrival_near s b g f in record { tick = h.0; above = h.1; below = h.2 }

  pub joined_fits : (o : Order) → o ∈ s.orders → MarginFits s.n (joined_by b o)
  joined_fits o m = let h = joined_near s b g f o m in record { tick = h.0; above = h.1; below = h.2 }
