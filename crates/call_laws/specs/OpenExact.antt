-- "Open takes 1, 2, 14": what an open returns, gives and leaves, in plain terms.
use Rattle.std.specs.Prelude.{◌≡◌, List, ℕ, ◌≤◌, length, replicate}
use Rattle.model.specs.Limits.{max_stations}
use Rattle.model.specs.State.{fresh}
use Rattle.model.specs.Layout.{image_size, reply_size}
use Rattle.model.specs.Calls.{open_number, open_call}
use Rattle.image_laws.specs.Iff.{◌⇔◌}
use Rattle.image_laws.specs.SoundImage.{SoundImage}

-- What its questions ask for.
pub record Openable (image : List ℕ) (n : ℕ) (reply : List ℕ) : Type 0 where
  -- 1. "Is the lent reply 16 bytes?"
  pub reply_whole : length reply ≡ reply_size
  -- 2. "Is the image 2,128 bytes?"
  pub image_whole : length image ≡ image_size
  -- 14. "N from 1 to 8?"
  pub n_low : 1 ≤ n
  pub n_high : n ≤ max_stations

pub record OpenedAt (image : List ℕ) (n : ℕ) (reply : List ℕ) : Type 0 where
  -- 0 exactly when all three pass.
  pub done : (open_number image n reply ≡ 0) ⇔ Openable image n reply
  -- "open gives zeros and a fresh image (clock 0, next ticket 1)": one that the next call can use, which says the fresh state.
  pub given : open_number image n reply ≡ 0 → (open_call image n reply).reply ≡ replicate reply_size 0
  pub left : open_number image n reply ≡ 0 → SoundImage (open_call image n reply).image (fresh n)

-- For anything that is lent, and any number of stations.
abbrev pub OpensFresh : Type 0
OpensFresh = (image : List ℕ) (n : ℕ) (reply : List ℕ) → OpenedAt image n reply
