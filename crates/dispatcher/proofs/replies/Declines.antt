-- A call by its number where nothing is done: 1 leaves image and reply as they were, any other number but 0 the image, and gives zeros.
use mathlib.Core.Path.{◌≡◌, refl, ◌∙◌}
use mathlib.Core.List.{List, ◌∷◌}
use Prim.Native.Nat.{ℕ}
use native.Mathlib.Omega.{arith}
use lib.ListN.{length}
use borrow.Author.Tests.{eq-eqb, ne_eqb}
use Rattle.model.specs.Layout.{reply_size}
use Rattle.model.specs.Questions.{Question, first_no, Answer, reply_bytes, zeros}
use Rattle.model.specs.Calls.{Result, result, reply_question}
use Rattle.soundness.specs.declared.questions.Refusal.{Refusal}
use Rattle.soundness.specs.declared.questions.Refusal.TheVariants.{ReplyLength, ImageLength, Mark, Unsound, BlockLength, Clock, Stations, Format, Speed}
use Rattle.soundness.specs.Questions.{number_of}
use Rattle.dispatcher.specs.Gives.{Gives}

pub declines : (number : ℕ) (answer : Answer) (image done reply : List ℕ) → (number ≡ 0 → ⊥) → (number ≡ 1 → ⊥) → answer ≡ zeros → Gives (result number answer image done reply) number image (reply_bytes number zeros)
unfolding result
declines number answer image done reply some other none =
    record { number_is = refl; image_is = rw (ne_eqb number 0 some); reply_is = rw (ne_eqb number 1 other, none) }

pub untouched : (number : ℕ) (answer : Answer) (image done reply : List ℕ) → number ≡ 1 → Gives (result number answer image done reply) 1 image reply
unfolding result
untouched number answer image done reply e = rw e (record { number_is = refl; image_is = refl; reply_is = refl })

-- Question 1.
pub too_short : (reply : List ℕ) (rest : List Question) → (length reply ≡ reply_size → ⊥) → first_no (reply_question reply ∷ rest) ≡ 1
unfolding first_no reply_question
too_short reply rest h = rw (ne_eqb (length reply) reply_size h)

pub with_reply : (reply : List ℕ) (rest : List Question) → length reply ≡ reply_size → first_no (reply_question reply ∷ rest) ≡ first_no rest
unfolding first_no reply_question
with_reply reply rest h = rw (eq-eqb (length reply) reply_size h)

-- A refusal has a number.
pub refused : (r : Refusal) → number_of r ≡ 0 → ⊥
refused ReplyLength e = omega arith
refused ImageLength e = omega arith
refused Mark e = omega arith
refused Unsound e = omega arith
refused BlockLength e = omega arith
refused Clock e = omega arith
refused Stations e = omega arith
refused Format e = omega arith
refused Speed e = omega arith

-- The same of buffers that came back.
pub gives_back : {call : Result} {n m : ℕ} {image back reply full : List ℕ} → Gives call m image reply → n ≡ m → back ≡ image → full ≡ reply → Gives call n back full
gives_back h e f g = record { number_is = e ∙ h.number_is; image_is = f ∙ h.image_is; reply_is = g ∙ h.reply_is }
