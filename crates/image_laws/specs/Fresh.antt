-- "a fresh image (clock 0, next ticket 1)", with "N 1 to 8".
use Rattle.std.specs.Prelude.{◌≡◌, true, ℕ, ◌≤◌}
use Rattle.model.specs.Limits.{max_stations}
use Rattle.model.specs.State.{fresh}
use Rattle.model.specs.Image.{decode, encode}
use Rattle.model.specs.Soundness.{sound}
use Rattle.image_laws.specs.SoundFacts.{SoundInRange}

-- It is sound, and is read as it was written.
pub record FreshSoundAt (n : ℕ) : Type 0 where
  pub state : SoundInRange (fresh n)
  pub image : sound (encode (fresh n)) ≡ true
  pub read : decode (encode (fresh n)) ≡ fresh n

abbrev pub FreshSound : Type 0
FreshSound = (n : ℕ) → 1 ≤ n → n ≤ max_stations → FreshSoundAt n
