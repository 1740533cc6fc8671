-- Document 01, "The questions, first "no" decides": 1 to 4, which quote, offer and advance ask first, as facts about what is lent.
use Rattle.std.specs.Prelude.{◌≡◌, true, List, ℕ, length}
use Rattle.model.specs.Layout.{image_size, reply_size}
use Rattle.model.specs.Image.{marked}
use Rattle.model.specs.Soundness.{sound}

pub record Usable (image reply : List ℕ) : Type 0 where
  -- 1. "Is the lent reply 16 bytes?"
  pub reply_whole : length reply ≡ reply_size
  -- 2. "Is the image 2,128 bytes?"
  pub image_whole : length image ≡ image_size
  -- 3. "Mark and version as above?"
  pub image_marked : marked image ≡ true
  -- 4. "Image sound?"
  pub image_sound : sound image ≡ true
