-- What a quote and an offer of a block come to where nothing before question 6 says "no": however the block was given, questions 6 to 12 decide.
use Rattle.std.specs.Prelude.{List, ◌++◌, ℕ}
use Rattle.model.specs.declared.Block.{Block}
use Rattle.model.specs.Image.{decode}
use Rattle.model.specs.Questions.{first_no}
use Rattle.model.specs.Admission.{block_questions, state_questions}
use Rattle.model.specs.Calls.{Result, offered, quoted}

abbrev pub block_number : List ℕ → Block → ℕ
block_number image b = let s = decode image in first_no (block_questions s.n b ++ state_questions s b)

unfoldable pub quote_taken : List ℕ → Block → List ℕ → Result
quote_taken image b reply = quoted (block_number image b) image b reply

unfoldable pub offer_taken : List ℕ → Block → List ℕ → Result
offer_taken image b reply = offered (block_number image b) image b reply
