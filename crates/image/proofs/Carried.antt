-- The live count that code carries is that of the live orders, at most 32.
use mathlib.Core.Path.{◌≡◌, ap}
use Prim.Native.Nat.{◌≤◌}
use native.Mathlib.Omega.{arith}
use lib.ListN.{length}
use Rattle.model.specs.Limits.{max_live}
use Rattle.image.specs.declared.pipeline.Pipeline.{Pipeline}
use Rattle.image.specs.Pipeline.{listed, padded}
use Rattle.image.specs.SoundPipeline.{SoundPipeline}

module _ {p : Pipeline} (ok : SoundPipeline p) where
  pub live_is : p.live ≡ length (listed p).orders
  unfolding padded
  live_is = ap (λ (q : Pipeline). q.live) ok.whole

  pub few : p.live ≤ max_live
  few = omega (arith, live_is, ok.sound.facts.live)
