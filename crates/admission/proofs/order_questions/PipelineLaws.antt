-- What a state that a sound image says gives the code that carries it: in words of the code's own fields, which are the state's.
use mathlib.Core.Path.{◌≡◌, refl, subst, ◌∙◌}
use mathlib.Core.List.{map}
use Prim.Native.Nat.{ℕ, ◌+◌, ◌<◌}
use native.Mathlib.Omega.{arith}
use lib.ListN.{take}
use lib.IntN.{pos}
use Rattle.model.specs.declared.Block.{Block}
use Rattle.model.specs.declared.Order.{Order}
use Rattle.model.specs.Lists.{largest}
use Rattle.model.specs.DelayBound.{delay_bound, bound_tick, margin}
use Rattle.model.specs.Admission.{arrival, joined_by, joined_live, smallest}
use Rattle.schedule.specs.Valid.{◌∈◌}
use Rattle.image.specs.declared.pipeline.Pipeline.{Pipeline}
use Rattle.image.specs.Pipeline.{listed}
use Rattle.call_laws.specs.Considered.{Fitting}
use Rattle.image.specs.SoundPipeline.{SoundPipeline}
use Rattle.admission.specs.declared.margins.Tried.{Tried}
use Rattle.admission.specs.Margins.{MarginFits, Tryable, Tries}
use Rattle.admission.specs.Arrival.{arrival_with}
use Rattle.admission.proofs.order_questions.FitLaws.{arrival_fits, joined_fits}

module _ {p : Pipeline} (ok : SoundPipeline p) where
  module _ {b : Block} (f : Fitting (listed p) b) {n : ℕ} (n_is : n ≡ p.n) where
    pub arrival_tried : {a : Order} → a ≡ arrival (listed p) b → MarginFits n a
    unfolding listed
    arrival_tried e = rw (n_is, e) (arrival_fits (listed p) b ok.sound.facts f)

    pub live_tried : {live : ℕ} → live ≡ p.live → (o : Order) → o ∈ take live p.orders → Tryable n b o
    unfolding listed
    live_tried live_is o m =
        let here = subst (λ (k : ℕ). o ∈ take k p.orders) live_is m in
        record { named = (ok.sound.facts.orders o here).named; fits = rw n_is (joined_fits (listed p) b ok.sound.facts f o here) }

  pub sums_fit : {b : Block} → Fitting (listed p) b → {live : ℕ} → live ≡ p.live → (o : Order) → o ∈ take live p.orders → largest b.costs + o.sum < 4294967296
  unfolding bound_tick delay_bound joined_by
  sums_fit f e o m = omega (arith, (live_tried f refl e o m).fits.tick)

-- What the code works out of a state is what the definitions say of it.
module _ (p : Pipeline) (b : Block) {n live : ℕ} (n_is : n ≡ p.n) (live_is : live ≡ p.live) {t : Tried} (r : Tries n b (take live p.orders) t) where
  pub arrival_is : arrival_with p.next p.clock b t.sum t.maxima ≡ arrival (listed p) b
  unfolding arrival_with arrival listed
  arrival_is = rw (r.sum_is, r.maxima_is, live_is)

  pub others_are : t.least ≡ smallest (pos 2147483647) (map (margin (listed p).n) (joined_live (listed p) b))
  unfolding listed joined_live
  others_are = r.least_is ∙ rw (n_is, live_is)
