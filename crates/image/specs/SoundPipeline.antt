-- A state that a sound image says, as code carries it.
use Rattle.std.specs.Prelude.{◌≡◌}
use Rattle.image.specs.declared.pipeline.Pipeline.{Pipeline}
use Rattle.image.specs.Pipeline.{listed, padded}
use Rattle.image_laws.specs.SoundFacts.{SoundInRange}

pub record SoundPipeline (p : Pipeline) : Type 0 where
  pub whole : p ≡ padded (listed p)
  pub sound : SoundInRange (listed p)
