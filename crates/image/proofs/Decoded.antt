-- The records of a sound image can be read, and the state that is decoded from it is one that a sound image says.
use mathlib.Core.Path.{◌≡◌, sym, ap, subst, ◌∙◌}
use mathlib.Core.Bool.{true}
use mathlib.Core.List.{List}
use Prim.Native.Nat.{ℕ, ◌≤◌}
use Rattle.model.specs.Limits.{max_live}
use Rattle.model.specs.Image.{live_count, decode}
use Rattle.model.specs.Soundness.{live_count_in_range, sound}
use Rattle.image.specs.declared.pipeline.Pipeline.{Pipeline}
use Rattle.image.specs.Pipeline.{padded, listed}
use Rattle.image.proofs.pipeline.TwoForms.{listed_padded}
use Rattle.image_laws.specs.InRange.{byte_limit, Below}
use Rattle.image_laws.specs.SoundFacts.{SoundInRange}
use Rattle.image_laws.proofs.Sound.{sound_gives}
use Rattle.image_laws.proofs.Facts.{sound_says}
use Rattle.image_laws.proofs.Tests.{leb_says}
use Rattle.image.specs.SoundPipeline.{SoundPipeline}

module _ (image : List ℕ) (bytes : Below byte_limit image) (is_sound : sound image ≡ true) where
  pub readable : live_count image ≤ max_live
  unfolding live_count_in_range
  readable = (leb_says (live_count image) max_live).tells ((sound_says image).tells is_sound).live

  pub listed_is : {p : Pipeline} → p ≡ padded (decode image) → listed p ≡ decode image
  listed_is e = ap listed e ∙ listed_padded (decode image)

  pub sound_pipeline : {p : Pipeline} → p ≡ padded (decode image) → SoundPipeline p
  sound_pipeline e =
      record {
        whole = e ∙ sym (ap padded (listed_is e));
        sound = subst SoundInRange (sym (listed_is e)) (sound_gives image bytes is_sound);
      }
