-- The calls of document 01: from the bytes that are lent to the number, the image and the reply.
use Rattle.std.specs.Prelude.{cond, List, [], ◌∷◌, ◌++◌, ℕ, ◌+◌, length, ltb, eqb, pos}
use Rattle.model.specs.Limits.{max_stations, last_tick}
use Rattle.model.specs.Lists.{within, is_zero}
use Rattle.model.specs.declared.Block.{Block}
use Rattle.model.specs.State.{State, fresh}
use Rattle.model.specs.Tick.{advance, advance_out}
use Rattle.model.specs.Layout.{image_size, reply_size}
use Rattle.model.specs.Image.{marked, decode, encode}
use Rattle.model.specs.Soundness.{sound}
use Rattle.model.specs.Questions.{Question, ◌else◌, first_no, Answer, reply_bytes, zeros}
use Rattle.model.specs.Admission.{block_of, accept, order_questions, offer_answer, quote_answer}
use Rattle.model.specs.Formats.{FormatOrder, format_block, format_order_questions}

-- What a call returns and leaves in the buffers.
pub record Result : Type 0 where
  pub number : ℕ
  pub image : List ℕ
  pub reply : List ℕ

-- "the number is also returned"; "After 1 the reply is untouched. Every decline leaves the image alone."
-- The number, the answer, the image as it was and as it is when done, the reply as it was.
unfoldable pub result : ℕ → Answer → List ℕ → List ℕ → List ℕ → Result
result number answer image done reply =
    record { number = number; image = cond (is_zero number) done image; reply = cond (eqb number 1) reply (reply_bytes number answer) }

-- Question 1 is asked of the reply; 2 of the image's length; 2 to 4 of the image.
unfoldable pub reply_question : List ℕ → Question
reply_question reply = eqb (length reply) reply_size else 1

unfoldable pub length_question : List ℕ → Question
length_question image = eqb (length image) image_size else 2

unfoldable pub image_questions : List ℕ → List Question
image_questions image = length_question image ∷ (marked image else 3) ∷ (sound image else 4) ∷ []

-- "Open takes 1, 2, 14"; "open gives zeros and a fresh image (clock 0, next ticket 1)".
unfoldable pub open_number : List ℕ → ℕ → List ℕ → ℕ
open_number image n reply = first_no (reply_question reply ∷ length_question image ∷ (within 1 max_stations n else 14) ∷ [])

unfoldable pub open_call : List ℕ → ℕ → List ℕ → Result
open_call image n reply = let done = encode (fresh n) in result (open_number image n reply) zeros image done reply

-- What an offer gives and leaves, by its number and the block that it takes. "Quote gives what offer would give, with ticket 0, and changes nothing in the image."
abbrev pub offered : ℕ → List ℕ → Block → List ℕ → Result
offered number image b reply =
    let done = encode (accept (decode image) b) in
    result number (offer_answer number (decode image) b) image done reply

abbrev pub quoted : ℕ → List ℕ → Block → List ℕ → Result
quoted number image b reply = result number (quote_answer number (decode image) b) image image reply

-- "quote and offer 1 to 12".
unfoldable pub offer_number : List ℕ → List ℕ → List ℕ → ℕ
offer_number image block reply = first_no (reply_question reply ∷ image_questions image ++ order_questions (decode image) block)

unfoldable pub offer_call : List ℕ → List ℕ → List ℕ → Result
offer_call image block reply = let number = offer_number image block reply in offered number image (block_of block) reply

unfoldable pub quote_call : List ℕ → List ℕ → List ℕ → Result
quote_call image block reply = let number = offer_number image block reply in quoted number image (block_of block) reply

-- Document 02, (i): "Offered or quoted, it gets the reply, and leaves the image, that the same order written as a block does"
unfoldable pub format_number : List ℕ → FormatOrder → List ℕ → ℕ
format_number image f reply = first_no (reply_question reply ∷ image_questions image ++ format_order_questions (decode image) f)

unfoldable pub offer_format_call : List ℕ → FormatOrder → List ℕ → Result
offer_format_call image f reply = let number = format_number image f reply in offered number image (format_block (decode image).n f) reply

unfoldable pub quote_format_call : List ℕ → FormatOrder → List ℕ → Result
quote_format_call image f reply = let number = format_number image f reply in quoted number image (format_block (decode image).n f) reply

-- "advance 1 to 4, then 13"; "advance gives the ticket out or 0, the new clock, and 0".
unfoldable pub advance_number : List ℕ → List ℕ → ℕ
advance_number image reply = first_no (reply_question reply ∷ image_questions image ++ ((ltb (decode image).clock last_tick else 13) ∷ []))

unfoldable pub advance_answer : ℕ → State → Answer
advance_answer number s =
    let done : Answer = record { ticket = advance_out s; tick = s.clock + 1; margin = pos 0 } in
    cond (is_zero number) done zeros

unfoldable pub advance_call : List ℕ → List ℕ → Result
advance_call image reply =
    let number = advance_number image reply in
    let done = encode (advance (decode image)) in
    result number (advance_answer number (decode image)) image done reply

-- A call by its kind and its arguments other than image and reply.
pub data Call : Type 0 where
  opening : ℕ → Call
  quoting : List ℕ → Call
  offering : List ℕ → Call
  quoting_format : FormatOrder → Call
  offering_format : FormatOrder → Call
  advancing : Call

unfoldable pub perform : Call → List ℕ → List ℕ → Result
perform (opening n) image reply = open_call image n reply
perform (quoting block) image reply = quote_call image block reply
perform (offering block) image reply = offer_call image block reply
perform (quoting_format f) image reply = quote_format_call image f reply
perform (offering_format f) image reply = offer_format_call image f reply
perform advancing image reply = advance_call image reply
