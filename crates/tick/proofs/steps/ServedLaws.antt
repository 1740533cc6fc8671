-- A sound state's live orders are a queue, and the steps of the code, put together, are those of the definition.
use mathlib.Core.Path.{◌≡◌}
use mathlib.Core.List.{List, map}
use Prim.Native.Nat.{ℕ}
use native.Mathlib.Omega.{arith}
use lib.ListN.{take}
use Rattle.model.specs.declared.Service.{Service}
use Rattle.model.specs.Tick.{view, start_each, one_less, starts, tick}
use Rattle.image.specs.declared.pipeline.Pipeline.{Pipeline}
use Rattle.image.specs.Pipeline.{listed}
use Rattle.image.specs.SoundPipeline.{SoundPipeline}
use Rattle.image.proofs.Carried.{few}
use Rattle.tick.specs.Selection.{Queue}

-- Its live orders have tickets, and are at its stations.
pub queue : {p : Pipeline} → SoundPipeline p → Queue p.orders p.live
unfolding listed
queue ok =
    let facts = ok.sound.facts in
    record {
      room = few ok;
      placed = λ o m.
          let f = facts.orders o m in
          record { named = f.named; low = f.station_low; high = omega (arith, f.station_high, facts.n_high) };
    }

pub put_together : (p : Pipeline) {live : ℕ} {started ticked : List Service} → live ≡ p.live → started ≡ start_each (map view (take live p.orders)) p.services → ticked ≡ map one_less started → ticked ≡ (tick (starts (listed p))).services
unfolding tick starts listed
put_together p l s t = rw (t, s, l)
