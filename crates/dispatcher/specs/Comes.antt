-- What a call comes to once the lent reply has its length: what the reply holds, and the image after.
use Rattle.std.specs.Prelude.{◌≡◌, true, List, ℕ, length, pos, Ok, Err, Result}
use Rattle.model.specs.Layout.{reply_size}
use Rattle.model.specs.Image.{marked}
use Rattle.model.specs.Soundness.{sound}
use Rattle.model.specs.Questions.{reply_bytes}
use Rattle.model.specs.Calls as calls
use Rattle.soundness.specs.declared.questions.Refusal.{Refusal}
use Rattle.soundness.specs.Questions.{number_of}
use Rattle.admission.specs.declared.decision.Reply.{Reply}
use Rattle.dispatcher.specs.Gives.{Gives}

-- Document 01: "Declined: ticket and tick are 0, margin is 0 save for 11 and 12".
abbrev pub given_by : Result Reply Refusal → Reply
given_by (Ok given) = given
given_by (Err refusal) = record { number = number_of refusal; ticket = 0; tick = 0; margin = pos 0 }

-- Its bytes.
abbrev pub given_bytes : Reply → List ℕ
given_bytes given = reply_bytes given.number (record { ticket = given.ticket; tick = given.tick; margin = given.margin })

-- A call, of which only the reply is not lent yet, leaves this image and gives that.
abbrev pub Comes : (List ℕ → calls.Result) → List ℕ → Reply → Type 0
Comes call image given = (reply : List ℕ) → length reply ≡ reply_size → Gives (call reply) given.number image (given_bytes given)

-- Questions 3 and 4, which an image of the right length passes.
pub record Sound (image : List ℕ) : Type 0 where
  pub is_marked : marked image ≡ true
  pub is_sound : sound image ≡ true
