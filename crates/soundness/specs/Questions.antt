-- Document 01's numbers: the question's for each refusal, and 0 where there is none.
use Rattle.std.specs.Prelude.{ℕ, Result, Ok, Err}
use Rattle.soundness.specs.declared.questions.Refusal.{Refusal}
use Rattle.soundness.specs.declared.questions.Refusal.TheVariants.{ReplyLength, ImageLength, Mark, Unsound, BlockLength, Clock, Stations, Format, Speed}

abbrev pub number_of : Refusal → ℕ
number_of ReplyLength = 1
number_of ImageLength = 2
number_of Mark = 3
number_of Unsound = 4
number_of BlockLength = 5
number_of Clock = 13
number_of Stations = 14
number_of Format = 19
number_of Speed = 20

-- Of what may be refused.
abbrev pub number_given : {A : Type 0} → Result A Refusal → ℕ
number_given (Ok done) = 0
number_given (Err refusal) = number_of refusal
