-- What the number of a recoding tells, case by case.
use mathlib.Core.Path.{◌≡◌}
use mathlib.Core.List.{List}
use Prim.Native.Nat.{ℕ, ◌≤◌, ◌<◌}
use lib.ListN.{length}
use borrow.Author.Tests.{eq-eqb, ne_eqb, le-leb, lt-leb}
use Rattle.model.specs.Limits.{max_live}
use Rattle.model.specs.Layout.{image_size}
use Rattle.model.specs.Image.{live_count}
use Rattle.model.specs.Questions.{first_no}
use Rattle.model.specs.Calls.{length_question}
use Rattle.probe.specs.Recode.{recode_number}

module _ (image : List ℕ) where
  pub recode_length : (length image ≡ image_size → ⊥) → 2 ≡ recode_number image
  unfolding recode_number first_no length_question
  recode_length h = rw (ne_eqb (length image) image_size h)

  pub recode_live : length image ≡ image_size → max_live < live_count image → 4 ≡ recode_number image
  unfolding recode_number first_no length_question
  recode_live h g = rw (eq-eqb (length image) image_size h, lt-leb (live_count image) max_live g)

  pub recode_done : length image ≡ image_size → live_count image ≤ max_live → 0 ≡ recode_number image
  unfolding recode_number first_no length_question
  recode_done h g = rw (eq-eqb (length image) image_size h, le-leb (live_count image) max_live g)
