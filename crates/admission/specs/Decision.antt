-- Document 01's number and values for each answer to an offer.
use Rattle.std.specs.Prelude.{Ok, Err, cond, [], ◌∷◌, ℕ, ℤ, pos, Result}
use Rattle.std.specs.Int.Signed.{lt_z}
use Rattle.model.specs.declared.Order.{Order}
use Rattle.model.specs.DelayBound.{bound_tick, margin}
use Rattle.model.specs.Questions.{Answer, zeros}
use Rattle.model.specs.Admission.{smallest}
use Rattle.admission.specs.declared.margins.Figures.{Figures}
use Rattle.admission.specs.declared.decision.Reply.{Reply}
use Rattle.admission.specs.declared.decision.Decline.{Decline}
use Rattle.admission.specs.declared.decision.Decline.TheVariants.{Costs, DueIn, DueTick, Tickets, Room, Late, Delaying}

abbrev pub Decision : Type 0
Decision = Result Figures Decline

-- "0 for done", otherwise the question's.
abbrev pub number_of : Decision → ℕ
number_of (Ok figures) = 0
number_of (Err Costs) = 6
number_of (Err DueIn) = 7
number_of (Err DueTick) = 8
number_of (Err Tickets) = 9
number_of (Err Room) = 10
number_of (Err (Late margin)) = 11
number_of (Err (Delaying margin)) = 12

-- What the reply holds beside it. The ticket is the one that is given with 0: that of the arrival, and 0 in a quote.
abbrev pub answer_of : ℕ → Decision → Answer
answer_of ticket (Ok figures) = record { ticket = ticket; tick = figures.tick; margin = figures.margin }
answer_of ticket (Err Costs) = zeros
answer_of ticket (Err DueIn) = zeros
answer_of ticket (Err DueTick) = zeros
answer_of ticket (Err Tickets) = zeros
answer_of ticket (Err Room) = zeros
answer_of ticket (Err (Late margin)) = record { ticket = 0; tick = 0; margin = margin }
answer_of ticket (Err (Delaying margin)) = record { ticket = 0; tick = 0; margin = margin }

-- Both, as the code has them.
abbrev pub reply_of : ℕ → Decision → Reply
reply_of ticket d = let a = answer_of ticket d in record { number = number_of d; ticket = a.ticket; tick = a.tick; margin = a.margin }

-- Questions 11 and 12 by the sign of the arrival's margin and of the smallest over it and the live orders.
unfoldable pub decision_of : ℕ → Order → ℤ → Decision
decision_of n a live =
    let least = smallest (margin n a) (live ∷ []) in
    cond (lt_z (margin n a) (pos 0)) (Err (Late least))
    (cond (lt_z least (pos 0)) (Err (Delaying least))
    (Ok (record { tick = bound_tick n a; margin = least })))
