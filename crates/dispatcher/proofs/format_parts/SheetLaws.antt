-- Questions 5, 19 and 20 as the code asks them, and the calls by format where these pass or one says "no".
use mathlib.Core.Path.{◌≡◌, refl}
use mathlib.Core.Bool.{true, false, ◌||◌}
use mathlib.Core.List.{List, ◌∷◌, ◌++◌}
use Prim.Native.Nat.{ℕ}
use lib.ListN.{length, take}
use lib.Dec.{leb, ltb}
use borrow.Author.Tests.{eq-eqb, ne_eqb}
use Rattle.model.specs.Limits.{max_format}
use Rattle.model.specs.Lists.{all}
use Rattle.model.specs.Layout.{reply_size, sheet_size}
use Rattle.model.specs.Image.{decode}
use Rattle.model.specs.Questions.{Question, first_no, reply_bytes, zeros}
use Rattle.model.specs.Admission.{block_questions, state_questions}
use Rattle.model.specs.Formats.{FormatOrder, speeds, format_block, format_questions, format_order_questions}
use Rattle.model.specs.Calls.{image_questions, format_number, offer_format_call, quote_format_call}
use Rattle.lists.proofs.Tests.{inside}
use Rattle.lists.proofs.Questions.{answer, gives_other, passed, spares}
use Rattle.call_laws.specs.FormatExact.{Readable}
use Rattle.call_laws.proofs.offers.Questions.{few_stations}
use Rattle.call_laws.proofs.formats.Exact.{three_say}
use Rattle.dispatcher.specs.Gives.{Gives}
use Rattle.dispatcher.specs.Comes.{Sound}
use Rattle.dispatcher.specs.Taken.{block_number, quote_taken, offer_taken}
use Rattle.dispatcher.proofs.replies.Declines.{untouched, too_short}
use Rattle.dispatcher.proofs.offer_parts.OfferLaws.{left_to, offered_declined, quoted_declined}

module _ (n format : ℕ) (sheet : List ℕ) where
  pub length_no : (length sheet ≡ sheet_size → ⊥) → 5 ≡ first_no (format_questions n format sheet)
  unfolding first_no format_questions
  length_no h = rw (ne_eqb (length sheet) sheet_size h)

  module _ (whole : length sheet ≡ sheet_size) where
    pub format_no : (ltb format 1 || ltb max_format format) ≡ true → 19 ≡ first_no (format_questions n format sheet)
    unfolding first_no format_questions
    format_no o = rw (eq-eqb (length sheet) sheet_size whole, inside 1 max_format format o)

    module _ (known : (ltb format 1 || ltb max_format format) ≡ false) where
      pub speed_no : all (leb 1) (take n (speeds sheet)) ≡ false → 20 ≡ first_no (format_questions n format sheet)
      unfolding first_no format_questions
      speed_no none = rw (eq-eqb (length sheet) sheet_size whole, inside 1 max_format format known, none)

      pub sheet_yes : all (leb 1) (take n (speeds sheet)) ≡ true → 0 ≡ first_no (format_questions n format sheet)
      unfolding first_no format_questions
      sheet_yes moving = rw (eq-eqb (length sheet) sheet_size whole, inside 1 max_format format known, moving)

-- Questions 19 and 20 tell what the block is made of.
pub readable : (image : List ℕ) (f : FormatOrder) → Sound image → first_no (format_questions (decode image).n f.format f.sheet) ≡ 0 → Readable (decode image).n f
unfolding all answer gives_other format_questions
readable image f ok zero =
    (three_say (decode image).n f (few_stations image ok.is_sound)).tells (passed (format_questions (decode image).n f.format f.sheet) refl zero)

module _ (image : List ℕ) (f : FormatOrder) (reply : List ℕ) where
  abbrev early : List Question
  early = format_questions (decode image).n f.format f.sheet

  abbrev rest : List Question
  rest = let b = format_block (decode image).n f in block_questions (decode image).n b ++ state_questions (decode image) b

  -- Question 1 says "no".
  module _ (short : length reply ≡ reply_size → ⊥) where
    pub offer_untouched : Gives (offer_format_call image f reply) 1 image reply
    unfolding offer_format_call format_number
    offer_untouched = untouched _ _ _ _ _ (too_short reply _ short)

    pub quote_untouched : Gives (quote_format_call image f reply) 1 image reply
    unfolding quote_format_call format_number
    quote_untouched = untouched _ _ _ _ _ (too_short reply _ short)

  module _ (whole : length reply ≡ reply_size) where
    module _ (zero : first_no (image_questions image ++ early) ≡ 0) where
      asked : block_number image (format_block (decode image).n f) ≡ format_number image f reply
      unfolding format_number format_order_questions image_questions format_questions block_questions all gives_other
      asked = left_to image early reply whole refl zero rest

      pub offer_taken_lem : offer_taken image (format_block (decode image).n f) reply ≡ offer_format_call image f reply
      unfolding offer_taken offer_format_call
      offer_taken_lem = rw asked

      pub quote_taken_lem : quote_taken image (format_block (decode image).n f) reply ≡ quote_format_call image f reply
      unfolding quote_taken quote_format_call
      quote_taken_lem = rw asked

    module _ (number : ℕ) (is : number ≡ first_no (image_questions image ++ early)) (some : number ≡ 0 → ⊥) where
      pub offer_declined : Gives (offer_format_call image f reply) number image (reply_bytes number zeros)
      unfolding offer_format_call format_number format_order_questions image_questions format_questions block_questions all spares
      offer_declined = offered_declined image early reply whole refl refl refl (format_block (decode image).n f) rest number is some

      pub quote_declined : Gives (quote_format_call image f reply) number image (reply_bytes number zeros)
      unfolding quote_format_call format_number format_order_questions image_questions format_questions block_questions all spares
      quote_declined = quoted_declined image early reply whole refl refl refl (format_block (decode image).n f) rest number is some
