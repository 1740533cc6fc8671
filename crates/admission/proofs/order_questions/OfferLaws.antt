-- The first "no" among questions 6 to 12, case by case.
use mathlib.Core.Path.{◌≡◌, refl, sym, ap, ◌∙◌}
use mathlib.Core.Bool.{Bool, true, false, ◌&&◌}
use mathlib.Core.List.{List, ◌++◌}
use lib.ListN.{length, drop}
use lib.Dec.{leb, ltb}
use Rattle.std.specs.Prelude.{Ok, Err, Result}
use Rattle.model.specs.declared.Block.{Block}
use Rattle.model.specs.Limits.{max_live, max_due_in, last_tick}
use Rattle.model.specs.State.{State}
use Rattle.model.specs.Soundness.{costs_in_range, zero_beyond}
use Rattle.model.specs.Questions.{Question, first_no}
use Rattle.model.specs.declared.Order.{Order}
use Rattle.model.specs.Admission.{arrival, due_of, block_questions, state_questions, offer_answer, quote_answer}
use Rattle.admission.specs.declared.margins.Figures.{Figures}
use Rattle.admission.specs.declared.decision.Decline.{Decline}
use Rattle.admission.specs.declared.decision.Decline.TheVariants.{Costs, DueIn, DueTick, Tickets, Room}
use Rattle.admission.specs.declared.order_questions.Accepted.{Accepted}
use Rattle.admission.specs.OrderQuestions.{Decides, Offers}

-- A decision, with the arrival where it is accepted.
module _ {questions : List Question} {s : State} {b : Block} where
  pub accepts : {figures : Figures} {a : Order} → Decides questions s b (Ok figures) → a ≡ arrival s b → Offers questions s b (Ok (record { figures = figures; arrival = a }))
  accepts {figures} {a} d is =
      record {
        decides = d;
        arrives = λ accepted same. let e : ◌≡◌ {A = Accepted} (record { figures = figures; arrival = a }) accepted = cc in ap (λ (x : Accepted). x.arrival) (sym e) ∙ is;
      }

  pub declines : {d : Decline} → Decides questions s b (Err d) → Offers questions s b (Err d)
  declines d = record { decides = d; arrives = λ accepted none. absurd (cc) }

module _ (s : State) (b : Block) where
  abbrev asked : List Question
  asked = block_questions s.n b ++ state_questions s b

  abbrev Declines : Decline → Type 0
  Declines d = Offers asked s b (Err d)

  abbrev pub BlockIs : Bool → Type 0
  BlockIs t = (costs_in_range s.n b.costs && zero_beyond s.n b.costs && zero_beyond s.n b.ranks) ≡ t

  pub costs_no : BlockIs false → Declines Costs
  unfolding block_questions state_questions first_no offer_answer quote_answer
  costs_no e = declines (record { number_is = rw e; offered = refl; quoted = refl })

  module _ (block : BlockIs true) where
    pub due_in_no : leb b.due_in max_due_in ≡ false → Declines DueIn
    unfolding block_questions state_questions first_no offer_answer quote_answer
    due_in_no e = declines (record { number_is = rw (block, e); offered = refl; quoted = refl })

    module _ (due_in : leb b.due_in max_due_in ≡ true) where
      pub due_tick_no : leb (due_of s.clock b) last_tick ≡ false → Declines DueTick
      unfolding block_questions state_questions first_no offer_answer quote_answer
      due_tick_no e = declines (record { number_is = rw (block, due_in, e); offered = refl; quoted = refl })

      module _ (due_tick : leb (due_of s.clock b) last_tick ≡ true) where
        pub tickets_no : leb 1 s.next ≡ false → Declines Tickets
        unfolding block_questions state_questions first_no offer_answer quote_answer
        tickets_no e = declines (record { number_is = rw (block, due_in, due_tick, e); offered = refl; quoted = refl })

        module _ (ticket : leb 1 s.next ≡ true) where
          pub room_no : ltb (length s.orders) max_live ≡ false → Declines Room
          unfolding block_questions state_questions first_no offer_answer quote_answer
          room_no e = declines (record { number_is = rw (block, due_in, due_tick, ticket, e); offered = refl; quoted = refl })

          -- The first five pass: the last two decide.
          pub all_yes : ltb (length s.orders) max_live ≡ true → (o : Result Accepted Decline) → Offers (drop 3 (state_questions s b)) s b o → Offers asked s b o
          unfolding block_questions state_questions first_no
          all_yes room o r =
              record {
                decides = record { number_is = r.decides.number_is ∙ rw (block, due_in, due_tick, ticket, room); offered = r.decides.offered; quoted = r.decides.quoted };
                arrives = r.arrives;
              }
