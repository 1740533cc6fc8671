-- Document 02, (i), "Order by paper format", in plain terms: where the call on such an order is the call on a block, and which number it gets where it is not.
use Rattle.std.specs.Prelude.{◌≡◌, ◌⊎◌, ◌≢◌, List, ◌∷◌, ℕ, ◌≤◌, ◌<◌, length}
use Rattle.model.specs.Limits.{max_cost, max_format}
use Rattle.model.specs.Lists.{at}
use Rattle.model.specs.Layout.{sheet_size}
use Rattle.model.specs.Image.{decode}
use Rattle.model.specs.Questions.{first_no}
use Rattle.model.specs.Admission.{block_bytes}
use Rattle.model.specs.Formats.{FormatOrder, speeds, format_cost, format_block}
use Rattle.model.specs.Calls.{reply_question, image_questions, offer_call, quote_call, format_number, offer_format_call, quote_format_call}
use Rattle.image_laws.specs.Iff.{◌⇔◌}
use Rattle.image_laws.specs.InRange.{half_limit, word_limit}
use Rattle.image_laws.specs.Usable.{Usable}

-- 5, 19 and 20 of an order by format, in a pipeline of n stations.
abbrev pub Known : FormatOrder → Type 0
Known f = (1 ≤ f.format) × (f.format ≤ max_format)

abbrev pub Unknown : FormatOrder → Type 0
Unknown f = (f.format < 1) ⊎ (max_format < f.format)

pub record Readable (n : ℕ) (f : FormatOrder) : Type 0 where
  -- Document 02, (i): "A sheet of another length gets 5"
  pub sheet_whole : length f.sheet ≡ sheet_size
  -- Document 02, (i): "19 for another format"
  pub known : Known f
  -- Document 02, (i): "20 for a speed of 0 at a station up to N"
  pub moving : (k : ℕ) → 1 ≤ k → k ≤ n → 1 ≤ at 0 (speeds f.sheet) k

-- It can be written as a block: the costs fit two bytes, and the due-in four, as in the call.
pub record Writable (n : ℕ) (f : FormatOrder) : Type 0 where
  pub readable : Readable n f
  pub costs_fit : (k : ℕ) → 1 ≤ k → k ≤ n → format_cost f k < half_limit
  pub due_in_fits : f.due_in < word_limit

-- The call on an order by format, for anything that is lent, in a pipeline of n stations.
pub record FormatAt (image : List ℕ) (f : FormatOrder) (reply : List ℕ) (n : ℕ) : Type 0 where
  -- Document 02, (i): "Offered or quoted, it gets the reply, and leaves the image, that the same order written as a block does": number, image and reply.
  pub offers_as_block : Writable n f → offer_format_call image f reply ≡ offer_call image (block_bytes (format_block n f)) reply
  pub quotes_as_block : Writable n f → quote_format_call image f reply ≡ quote_call image (block_bytes (format_block n f)) reply
  -- Where it is done, late, or would make a live order late, it can be.
  pub considered : (format_number image f reply ≡ 0) ⊎ (format_number image f reply ≡ 11) ⊎ (format_number image f reply ≡ 12) → Writable n f
  -- 1 to 4 as in every call on an image.
  pub one_to_four : first_no (reply_question reply ∷ image_questions image) ≢ 0 → format_number image f reply ≡ first_no (reply_question reply ∷ image_questions image)
  -- Document 02, (i): "Refused: 19 for another format, 20 for a speed of 0 at a station up to N; both directly after 5, 19 first."
  pub five : (format_number image f reply ≡ 5) ⇔ (Usable image reply × (length f.sheet ≢ sheet_size))
  pub nineteen : (format_number image f reply ≡ 19) ⇔ (Usable image reply × (length f.sheet ≡ sheet_size) × Unknown f)
  pub twenty :
      (format_number image f reply ≡ 20)
      ⇔ (Usable image reply × (length f.sheet ≡ sheet_size) × Known f × (k : ℕ) × (1 ≤ k) × (k ≤ n) × (at 0 (speeds f.sheet) k ≡ 0))
  -- Document 02, (i): "costs out of range still get 6", those that no two bytes hold among them.
  pub six : (format_number image f reply ≡ 6) ⇔ (Usable image reply × Readable n f × (k : ℕ) × (1 ≤ k) × (k ≤ n) × (max_cost < format_cost f k))

abbrev pub FormatAsBlock : Type 0
FormatAsBlock = (image : List ℕ) (f : FormatOrder) (reply : List ℕ) → FormatAt image f reply (decode image).n
