-- A reply of 16 bytes: what it holds makes no difference to a call, which asks its length and then writes all of it; and the numbers that are written into it fit
-- the fields of a log.
use mathlib.Core.Path.{◌≡◌, refl}
use mathlib.Core.Bool.{Bool, true, false}
use mathlib.Core.List.{List, [], ◌∷◌, ◌++◌}
use Prim.Native.Nat.{ℕ, ◌/◌, ◌≤◌}
use native.Mathlib.Nat.{mod-lt}
use native.Mathlib.Omega.{arith}
use lib.ListN.{length}
use lib.Dec.{leb, ltb}
use borrow.Author.Tests.{eq-eqb, ne_eqb, leb-true}
use Rattle.model.specs.Limits.{last_tick}
use Rattle.model.specs.Lists.{all}
use Rattle.model.specs.Bytes.{word}
use Rattle.model.specs.Layout.{reply_size, reply_ticket_at}
use Rattle.model.specs.Image.{decode}
use Rattle.model.specs.Questions.{Question, ◌else◌, first_no, Answer, reply_bytes}
use Rattle.model.specs.Admission.{block_length_question, block_questions, state_questions, order_questions}
use Rattle.model.specs.Calls.{result, reply_question, length_question, image_questions, offer_number, offer_call, advance_number, advance_call, perform}
use Rattle.lists.proofs.Questions.{spares, never}
use Rattle.schedule.proofs.Laws.{and_both}
use Rattle.log_model.specs.Limits.{most32}
use Rattle.log_model.specs.Lines.{Line, offered, advanced, call_of}

-- ---- numbers
unfoldable at_most : ℕ → Question → Bool
at_most most (b else k) = leb k most

first_at_most : (most : ℕ) (l : List Question) → all (at_most most) l ≡ true → first_no l ≤ most
unfolding all at_most first_no
first_at_most most [] e = omega arith
first_at_most most ((true else k) ∷ l) e = first_at_most most l (and_both (leb k most) (all (at_most most) l) e).1
first_at_most most ((false else k) ∷ l) e = leb-true k most (and_both (leb k most) (all (at_most most) l) e).0

pub offer_number_fits : (image block reply : List ℕ) → offer_number image block reply ≤ most32
unfolding offer_number all at_most reply_question length_question image_questions block_length_question block_questions state_questions order_questions
offer_number_fits image block reply =
    first_at_most most32 (reply_question reply ∷ image_questions image ++ order_questions (decode image) block) refl

-- ---- replies of 16 bytes
module _ (rest : List Question) (others : all (spares 1) rest ≡ true) where
  not_one : (reply : List ℕ) → length reply ≡ reply_size → first_no (reply_question reply ∷ rest) ≡ 1 → ⊥
  unfolding first_no reply_question
  not_one reply whole e = never 1 (omega arith) rest others (rw (eq-eqb (length reply) reply_size whole) at e)

  same_number : (a b : List ℕ) → length a ≡ reply_size → length b ≡ reply_size → first_no (reply_question a ∷ rest) ≡ first_no (reply_question b ∷ rest)
  unfolding first_no reply_question
  same_number a b p q = rw (eq-eqb (length a) reply_size p, eq-eqb (length b) reply_size q)

ticket_small : (number : ℕ) (a : Answer) → word (reply_bytes number a) reply_ticket_at ≤ most32
unfolding reply_bytes
ticket_small number a =
    let t = a.ticket in
    omega (arith, mod-lt t {m = 256} (omega arith), mod-lt (t / 256) {m = 256} (omega arith), mod-lt (t / 65536) {m = 256} (omega arith), mod-lt (t / 16777216) {m = 256} (omega arith))

module _ (image block : List ℕ) where
  abbrev asked : List Question
  asked = image_questions image ++ order_questions (decode image) block

  asked_later : all (spares 1) asked ≡ true
  unfolding all spares length_question image_questions block_length_question block_questions state_questions order_questions
  asked_later = refl

  pub offer_reply : (a b : List ℕ) → length a ≡ reply_size → length b ≡ reply_size → offer_call image block a ≡ offer_call image block b
  unfolding offer_call offer_number result
  offer_reply a b p q =
      rw (
        same_number asked asked_later a b p q,
        ne_eqb (first_no (reply_question b ∷ asked)) 1 (not_one asked asked_later b q),
      )

  pub offer_ticket_fits : (reply : List ℕ) → length reply ≡ reply_size → word (offer_call image block reply).reply reply_ticket_at ≤ most32
  unfolding offer_call offer_number result
  offer_ticket_fits reply whole = rw (ne_eqb (first_no (reply_question reply ∷ asked)) 1 (not_one asked asked_later reply whole)) (ticket_small _ _)

module _ (image : List ℕ) where
  abbrev ticked : List Question
  ticked = image_questions image ++ ((ltb (decode image).clock last_tick else 13) ∷ [])

  ticked_later : all (spares 1) ticked ≡ true
  unfolding all spares length_question image_questions
  ticked_later = refl

  pub advance_reply : (a b : List ℕ) → length a ≡ reply_size → length b ≡ reply_size → advance_call image a ≡ advance_call image b
  unfolding advance_call advance_number result
  advance_reply a b p q =
      rw (
        same_number ticked ticked_later a b p q,
        ne_eqb (first_no (reply_question b ∷ ticked)) 1 (not_one ticked ticked_later b q),
      )

  pub advance_ticket_fits : (reply : List ℕ) → length reply ≡ reply_size → word (advance_call image reply).reply reply_ticket_at ≤ most32
  unfolding advance_call advance_number result
  advance_ticket_fits reply whole = rw (ne_eqb (first_no (reply_question reply ∷ ticked)) 1 (not_one ticked ticked_later reply whole)) (ticket_small _ _)

-- A line's call, likewise.
pub reply_makes_no_difference : (line : Line) (image a b : List ℕ) → length a ≡ reply_size → length b ≡ reply_size → perform (call_of line) image a ≡ perform (call_of line) image b
unfolding perform call_of
reply_makes_no_difference (offered due_in ranks costs number ticket) image a b p q = offer_reply image _ a b p q
reply_makes_no_difference (advanced ticket) image a b p q = advance_reply image a b p q
