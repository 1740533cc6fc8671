-- What the number says: of the image by going through the questions, and of the text by the definition's tests.
use mathlib.Core.Path.{◌≡◌, refl, sym, ◌∙◌}
use mathlib.Core.Bool.{Bool, true, false}
use mathlib.Core.List.{List, [], ◌∷◌, ◌++◌, append-nil}
use Prim.Native.Nat.{ℕ, ◌<◌}
use native.Mathlib.Omega.{arith}
use lib.ListN.{length}
use lib.Dec.{eqb}
use borrow.Author.Tests.{eqb-true, ne_eqb}
use Rattle.model.specs.Layout.{image_size}
use Rattle.model.specs.Image.{marked, decode}
use Rattle.model.specs.Soundness.{sound}
use Rattle.model.specs.Questions.{◌else◌, first_no}
use Rattle.model.specs.Calls.{length_question, image_questions}
use Rattle.soundness.specs.declared.questions.Refusal.{Refusal}
use Rattle.soundness.specs.declared.questions.Refusal.TheVariants.{ReplyLength, ImageLength, Mark, Unsound, BlockLength, Clock, Stations, Format, Speed}
use Rattle.soundness.specs.Questions.{number_of}
use Rattle.image_text.specs.Report.{figure_line, state_report, clause_line, report}
use Rattle.image_text.specs.FirstFlaw.{first_flaw}
use Rattle.image_text.specs.Explanation.{flaw_name, explained}

none_no : (whole marked sound : Bool) → first_no ((whole else 2) ∷ (marked else 3) ∷ (sound else 4) ∷ []) ≡ 0 → (whole ≡ true) × (sound ≡ true)
unfolding first_no
none_no true true true e = (refl, refl)
none_no true true false e = absurd (omega arith)
none_no true false sound e = absurd (omega arith)
none_no false marked sound e = absurd (omega arith)

last_no : (whole marked sound : Bool) → first_no ((whole else 2) ∷ (marked else 3) ∷ (sound else 4) ∷ []) ≡ 4 → whole ≡ true
unfolding first_no
last_no true marked sound e = refl
last_no false marked sound e = absurd (omega arith)

-- Of an image with that number.
module _ (image : List ℕ) (number : ℕ) (is : number ≡ first_no (image_questions image)) where
  pub zero_whole_sound : number ≡ 0 → (length image ≡ image_size) × (sound image ≡ true)
  unfolding image_questions length_question
  zero_whole_sound e =
      let t = none_no (eqb (length image) image_size) (marked image) (sound image) (sym is ∙ e) in
      (eqb-true (length image) image_size t.0, t.1)

  pub four_whole : number ≡ 4 → length image ≡ image_size
  unfolding image_questions length_question
  four_whole e = eqb-true (length image) image_size (last_no (eqb (length image) image_size) (marked image) (sound image) (sym is ∙ e))

  pub zero_said : number ≡ 0 → explained image ≡ figure_line "number " number ++ state_report (decode image)
  unfolding explained report
  zero_said e = rw (← is, e)

  pub four_named : number ≡ 4 → explained image ≡ figure_line "number " number ++ clause_line (flaw_name (first_flaw image))
  unfolding explained report
  four_named e = rw (← is, e)

  pub others_alone : (number ≡ 0 → ⊥) → (number ≡ 4 → ⊥) → explained image ≡ figure_line "number " number
  unfolding explained report
  others_alone p q = rw (← is, ne_eqb number 0 p, ne_eqb number 4 q) (append-nil (figure_line "number " number))

-- Of what may be refused, question 4 alone has that number, and none has 0.
pub four_unsound : (refusal : Refusal) → number_of refusal ≡ 4 → refusal ≡ Unsound
four_unsound ReplyLength e = absurd (omega arith)
four_unsound ImageLength e = absurd (omega arith)
four_unsound Mark e = absurd (omega arith)
four_unsound Unsound e = refl
four_unsound BlockLength e = absurd (omega arith)
four_unsound Clock e = absurd (omega arith)
four_unsound Stations e = absurd (omega arith)
four_unsound Format e = absurd (omega arith)
four_unsound Speed e = absurd (omega arith)

pub never_zero : (refusal : Refusal) → 0 < number_of refusal
never_zero ReplyLength = omega arith
never_zero ImageLength = omega arith
never_zero Mark = omega arith
never_zero Unsound = omega arith
never_zero BlockLength = omega arith
never_zero Clock = omega arith
never_zero Stations = omega arith
never_zero Format = omega arith
never_zero Speed = omega arith

-- Bytes of another length.
pub other_length : (image : List ℕ) → (length image ≡ image_size → ⊥) → 2 ≡ first_no (image_questions image)
unfolding image_questions length_question first_no
other_length image h = rw (ne_eqb (length image) image_size h)
