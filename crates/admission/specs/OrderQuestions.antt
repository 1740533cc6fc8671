-- What an offer's answer says.
use Rattle.std.specs.Prelude.{◌≡◌, Ok, Err, List, ◌++◌, Result}
use Rattle.model.specs.declared.Block.{Block}
use Rattle.model.specs.State.{State}
use Rattle.model.specs.Questions.{Question, first_no}
use Rattle.model.specs.Admission.{block_questions, state_questions, arrival, offer_answer, quote_answer}
use Rattle.admission.specs.declared.decision.Decline.{Decline}
use Rattle.admission.specs.declared.order_questions.Accepted.{Accepted}
use Rattle.admission.specs.Decision.{Decision, number_of, answer_of}

-- The first "no" among some questions, and what offer and quote give with it.
pub record Decides (questions : List Question) (s : State) (b : Block) (d : Decision) : Type 0 where
  pub number_is : number_of d ≡ first_no questions
  pub offered : answer_of s.next d ≡ offer_answer (number_of d) s b
  pub quoted : answer_of 0 d ≡ quote_answer (number_of d) s b

-- An offer's answer without the arrival.
abbrev pub decision : Result Accepted Decline → Decision
decision (Ok accepted) = Ok accepted.figures
decision (Err decline) = Err decline

-- With it the arrival, where it is accepted.
pub record Offers (questions : List Question) (s : State) (b : Block) (r : Result Accepted Decline) : Type 0 where
  pub decides : Decides questions s b (decision r)
  pub arrives : (accepted : Accepted) → r ≡ Ok accepted → accepted.arrival ≡ arrival s b

-- The answer to an order at a state: the first "no" of questions 6 to 12.
abbrev pub Answers : State → Block → Result Accepted Decline → Type 0
Answers s b r = Offers (block_questions s.n b ++ state_questions s b) s b r
