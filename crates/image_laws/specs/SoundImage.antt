-- What a done call leaves: an image that the next call can use.
use Rattle.std.specs.Prelude.{◌≡◌, true, List, ℕ, length}
use Rattle.model.specs.State.{State}
use Rattle.model.specs.Layout.{image_size}
use Rattle.model.specs.Image.{marked, decode}
use Rattle.model.specs.Soundness.{sound}
use Rattle.image_laws.specs.InRange.{byte_limit, Below}

-- Bytes of an image's length, marked and sound, that say the state.
pub record SoundImage (image : List ℕ) (s : State) : Type 0 where
  pub whole : length image ≡ image_size
  pub bytes : Below byte_limit image
  pub is_marked : marked image ≡ true
  pub is_sound : sound image ≡ true
  pub says : decode image ≡ s
