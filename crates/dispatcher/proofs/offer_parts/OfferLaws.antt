-- What the questions before the block tell, and the calls by their number.
use mathlib.Core.Path.{◌≡◌, refl, sym, ◌∙◌}
use mathlib.Core.Bool.{true, ◌&&◌}
use mathlib.Core.List.{List, [], ◌∷◌, ◌++◌}
use Prim.Native.Nat.{ℕ, ◌≤◌}
use native.Mathlib.Omega.{arith}
use lib.ListN.{length}
use lib.Dec.{eqb}
use borrow.Author.Tests.{eq-eqb, ne_eqb}
use Rattle.model.specs.declared.Block.{Block}
use Rattle.model.specs.Lists.{all}
use Rattle.model.specs.Layout.{image_size, block_size, reply_size}
use Rattle.model.specs.Image.{marked, decode}
use Rattle.model.specs.Soundness.{sound}
use Rattle.model.specs.Questions.{Question, ◌else◌, first_no, reply_bytes, zeros}
use Rattle.model.specs.Admission.{block_of, block_length_question, block_questions, state_questions, order_questions, offer_answer, quote_answer}
use Rattle.model.specs.Calls.{reply_question, length_question, image_questions, offered, quoted, offer_number, offer_call, quote_call}
use Rattle.lists.proofs.Tests.{and_both, all_append}
use Rattle.lists.proofs.Questions.{answer, gives_other, decides, passed, after, spares, never}
use Rattle.dispatcher.specs.Gives.{Gives}
use Rattle.dispatcher.specs.Comes.{Sound}
use Rattle.dispatcher.specs.Taken.{block_number, quote_taken, offer_taken}
use Rattle.dispatcher.proofs.replies.Declines.{declines, untouched, too_short, with_reply}

-- Question 2.
pub length_no : (image : List ℕ) → (length image ≡ image_size → ⊥) → 2 ≡ first_no (image_questions image)
unfolding first_no image_questions length_question
length_no image h = rw (ne_eqb (length image) image_size h)

-- Question 5.
pub block_no : (block : List ℕ) → (length block ≡ block_size → ⊥) → 5 ≡ first_no (block_length_question block ∷ [])
unfolding first_no block_length_question
block_no block h = rw (ne_eqb (length block) block_size h)

pub block_yes : (block : List ℕ) → length block ≡ block_size → 0 ≡ first_no (block_length_question block ∷ [])
unfolding first_no block_length_question
block_yes block h = rw (eq-eqb (length block) block_size h)

-- Questions 2 to 4 pass.
pub sound_lem : (image : List ℕ) → first_no (image_questions image) ≡ 0 → Sound image
unfolding image_questions length_question all answer gives_other
sound_lem image zero =
    let asked = and_both (eqb (length image) image_size) (marked image && (sound image && true)) (passed (image_questions image) refl zero) in
    let last = and_both (marked image) (sound image && true) asked.1 in
    record { is_marked = last.0; is_sound = (and_both (sound image) true last.1).0 }

-- ---- questions 2 to 4, and early ones after them, of which none gives 0, 1, 11 or 12
module _ (image : List ℕ) (early : List Question) where
  three : List Question
  three = image_questions image

  pub three_no : (k : ℕ) → k ≡ first_no (image_questions image) → (k ≡ 0 → ⊥) → k ≡ first_no (image_questions image ++ early)
  unfolding three image_questions
  three_no k e some = decides three early k e some

  pub three_yes : (k : ℕ) → first_no (image_questions image) ≡ 0 → k ≡ first_no early → k ≡ first_no (image_questions image ++ early)
  unfolding three all gives_other image_questions length_question
  three_yes k zero e = e ∙ after three early (passed three refl zero)

  module _ (reply : List ℕ) (whole : length reply ≡ reply_size) where
    -- All of them pass.
    module _ (spare : all (gives_other 0) early ≡ true) (zero : first_no (image_questions image ++ early) ≡ 0) where
      yes : all answer (three ++ early) ≡ true
      unfolding three all gives_other image_questions length_question
      yes = passed (three ++ early) spare zero

      pub early_pass : all answer early ≡ true
      early_pass = (and_both (all answer three) (all answer early) (sym (all_append answer three early) ∙ yes)).1

      pub left_to : (rest : List Question) → first_no rest ≡ first_no (reply_question reply ∷ image_questions image ++ early ++ rest)
      unfolding three image_questions
      left_to rest = after (three ++ early) rest yes ∙ sym (with_reply reply (image_questions image ++ early ++ rest) whole)

    -- One of them says "no": nothing is written but the number and zeros.
    module _ (not_1 : all (spares 1) early ≡ true) (not_11 : all (spares 11) early ≡ true) (not_12 : all (spares 12) early ≡ true) (b : Block) (rest : List Question) (number : ℕ) (is : number ≡ first_no (image_questions image ++ early)) (some : number ≡ 0 → ⊥) where
      number_is : number ≡ first_no (reply_question reply ∷ image_questions image ++ early ++ rest)
      unfolding three image_questions
      number_is = decides (three ++ early) rest number is some ∙ sym (with_reply reply (image_questions image ++ early ++ rest) whole)

      other_than : (k : ℕ) → 1 ≤ k → all (spares k) (three ++ early) ≡ true → number ≡ k → ⊥
      unfolding three image_questions
      other_than k low others e = never k low (three ++ early) others (sym is ∙ e)

      not_one : number ≡ 1 → ⊥
      unfolding three all spares image_questions length_question
      not_one = other_than 1 (omega arith) not_1

      no_values : offer_answer number (decode image) b ≡ zeros
      unfolding offer_answer three all spares image_questions length_question
      no_values = rw (ne_eqb number 0 some, ne_eqb number 11 (other_than 11 (omega arith) not_11), ne_eqb number 12 (other_than 12 (omega arith) not_12))

      pub offered_declined : Gives (offered (first_no (reply_question reply ∷ image_questions image ++ early ++ rest)) image b reply) number image (reply_bytes number zeros)
      offered_declined = rw (← number_is) (declines number _ image _ reply some not_one no_values)

      pub quoted_declined : Gives (quoted (first_no (reply_question reply ∷ image_questions image ++ early ++ rest)) image b reply) number image (reply_bytes number zeros)
      unfolding quote_answer
      quoted_declined = rw (← number_is) (declines number _ image _ reply some not_one (rw no_values))

-- ---- a block that is lent
module _ (image block reply : List ℕ) where
  abbrev early : List Question
  early = block_length_question block ∷ []

  abbrev rest : List Question
  rest = block_questions (decode image).n (block_of block) ++ state_questions (decode image) (block_of block)

  -- Question 1 says "no".
  module _ (short : length reply ≡ reply_size → ⊥) where
    pub offer_untouched : Gives (offer_call image block reply) 1 image reply
    unfolding offer_call offer_number
    offer_untouched = untouched _ _ _ _ _ (too_short reply _ short)

    pub quote_untouched : Gives (quote_call image block reply) 1 image reply
    unfolding quote_call offer_number
    quote_untouched = untouched _ _ _ _ _ (too_short reply _ short)

  module _ (whole : length reply ≡ reply_size) where
    module _ (zero : first_no (image_questions image ++ early) ≡ 0) where
      asked : block_number image (block_of block) ≡ offer_number image block reply
      unfolding offer_number order_questions image_questions block_length_question all gives_other
      asked = left_to image early reply whole refl zero rest

      pub offer_taken_lem : offer_taken image (block_of block) reply ≡ offer_call image block reply
      unfolding offer_taken offer_call
      offer_taken_lem = rw asked

      pub quote_taken_lem : quote_taken image (block_of block) reply ≡ quote_call image block reply
      unfolding quote_taken quote_call
      quote_taken_lem = rw asked

    module _ (number : ℕ) (is : number ≡ first_no (image_questions image ++ early)) (some : number ≡ 0 → ⊥) where
      pub offer_declined : Gives (offer_call image block reply) number image (reply_bytes number zeros)
      unfolding offer_call offer_number order_questions image_questions block_length_question all spares
      offer_declined = offered_declined image early reply whole refl refl refl (block_of block) rest number is some

      pub quote_declined : Gives (quote_call image block reply) number image (reply_bytes number zeros)
      unfolding quote_call offer_number order_questions image_questions block_length_question all spares
      quote_declined = quoted_declined image early reply whole refl refl refl (block_of block) rest number is some
