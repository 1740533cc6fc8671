-- The first "no" among the questions that are asked of the image, case by case.
use mathlib.Core.Path.{◌≡◌}
use mathlib.Core.Bool.{true, false, ◌&&◌}
use mathlib.Core.List.{List, ◌∷◌}
use Prim.Native.Nat.{ℕ, ◌≤◌}
use native.Mathlib.Omega.{arith}
use lib.ListN.{length, get_or}
use lib.Dec.{eqb}
use lib.Seq.{take-suc}
use borrow.Author.Tests.{eq-eqb, ne_eqb}
use Rattle.model.specs.Lists.{same}
use Rattle.lists.proofs.Tests.{and_true}
use Rattle.model.specs.Bytes.{half}
use Rattle.model.specs.Layout.{image_size, reply_size, version_at, version}
use Rattle.model.specs.Image.{marked}
use Rattle.model.specs.Soundness.{sound}
use Rattle.model.specs.Questions.{first_no}
use Rattle.model.specs.Calls.{reply_question, length_question, image_questions}

-- The mark by its three bytes.
pub marked_is : (image : List ℕ) → 3 ≤ length image → marked image ≡ ((eqb (get_or image 0 0) 87 && (eqb (get_or image 1 0) 77 && eqb (get_or image 2 0) 67)) && eqb (half image version_at) version)
unfolding marked same
marked_is image h =
    rw (take-suc image 2 0 (omega arith), take-suc image 1 0 (omega arith), take-suc image 0 0 (omega arith)) (rw (and_true (eqb (get_or image 2 0) 67)))

module _ (image : List ℕ) where
  pub length_no : (length image ≡ image_size → ⊥) → 2 ≡ first_no (image_questions image)
  unfolding first_no image_questions length_question
  length_no h = rw (ne_eqb (length image) image_size h)

  pub mark_no : length image ≡ image_size → marked image ≡ false → 3 ≡ first_no (image_questions image)
  unfolding first_no image_questions length_question
  mark_no h m = rw (eq-eqb (length image) image_size h, m)

  pub sound_no : length image ≡ image_size → marked image ≡ true → sound image ≡ false → 4 ≡ first_no (image_questions image)
  unfolding first_no image_questions length_question
  sound_no h m s = rw (eq-eqb (length image) image_size h, m, s)

  pub all_yes : length image ≡ image_size → marked image ≡ true → sound image ≡ true → 0 ≡ first_no (image_questions image)
  unfolding first_no image_questions length_question
  all_yes h m s = rw (eq-eqb (length image) image_size h, m, s)

  module _ (reply : List ℕ) where
    pub reply_no : (length reply ≡ reply_size → ⊥) → 1 ≡ first_no (reply_question reply ∷ image_questions image)
    unfolding first_no reply_question
    reply_no h = rw (ne_eqb (length reply) reply_size h)

    pub reply_yes : length reply ≡ reply_size → first_no (image_questions image) ≡ first_no (reply_question reply ∷ image_questions image)
    unfolding first_no reply_question
    reply_yes h = rw (eq-eqb (length reply) reply_size h)
