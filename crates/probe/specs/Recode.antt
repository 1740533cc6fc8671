-- An image decoded and encoded again.
use Rattle.std.specs.Prelude.{◌≡◌, cond, List, [], ◌∷◌, ℕ, leb}
use Rattle.model.specs.Lists.{is_zero}
use Rattle.model.specs.Limits.{max_live}
use Rattle.model.specs.Image.{live_count, decode, encode}
use Rattle.model.specs.Questions.{◌else◌, first_no}
use Rattle.model.specs.Calls.{length_question}

-- 2 for an image of another length; 4 for one whose live count is above 32, so that there is nothing to decode.
unfoldable pub recode_number : List ℕ → ℕ
recode_number image = first_no (length_question image ∷ (leb (live_count image) max_live else 4) ∷ [])

-- The number, and the image that is left: what it says encoded again, or as it was.
pub record Recoded (image : List ℕ) (number : ℕ) (left : List ℕ) : Type 0 where
  pub number_is : number ≡ recode_number image
  pub image_is : left ≡ cond (is_zero number) (encode (decode image)) image
