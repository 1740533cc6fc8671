-- What is left of a quote and an offer once their block is there: what the answer to the offer says is what the call gives.
use mathlib.Core.Path.{◌≡◌, refl, sym, ap, ◌∙◌}
use mathlib.Core.Bool.{Bool, true, false, cond}
use mathlib.Core.List.{List, ◌++◌}
use Prim.Native.Nat.{ℕ}
use native.Mathlib.Omega.{arith}
use lib.ListN.{length}
use borrow.Author.Tests.{ne_eqb}
use Rattle.std.specs.Prelude.{Ok, Err}
use Rattle.model.specs.declared.Block.{Block}
use Rattle.model.specs.declared.Order.{Order}
use Rattle.model.specs.Limits.{max_stations}
use Rattle.model.specs.Lists.{is_zero}
use Rattle.model.specs.Layout.{image_size}
use Rattle.model.specs.Image.{decode, encode}
use Rattle.model.specs.Admission.{arrival, accept, block_questions, state_questions}
use Rattle.model.specs.Calls.{result}
use Rattle.call_laws.proofs.offers.Questions.{block_fits, few_stations}
use Rattle.admission.specs.declared.decision.Decline.{Decline}
use Rattle.admission.specs.declared.decision.Decline.TheVariants.{Costs, DueIn, DueTick, Tickets, Room, Late, Delaying}
use Rattle.admission.specs.declared.order_questions.Accepted.{Accepted}
use Rattle.admission.specs.Decision.{Decision, number_of, answer_of, reply_of}
use Rattle.admission.specs.OrderQuestions.{Decides, Answers}
use Rattle.admission.specs.Acceptance.{Acceptable}
use Rattle.dispatcher.specs.Gives.{Gives}
use Rattle.dispatcher.specs.Comes.{Sound, given_bytes}
use Rattle.dispatcher.specs.Taken.{block_number, quote_taken, offer_taken}

never_one : (d : Decision) → number_of d ≡ 1 → ⊥
never_one (Ok f) e = omega arith
never_one (Err Costs) e = omega arith
never_one (Err DueIn) e = omega arith
never_one (Err DueTick) e = omega arith
never_one (Err Tickets) e = omega arith
never_one (Err Room) e = omega arith
never_one (Err (Late m)) e = omega arith
never_one (Err (Delaying m)) e = omega arith

-- A decline has a number, and gives no ticket.
some : (d : Decline) → number_of (Err d) ≡ 0 → ⊥
some Costs e = omega arith
some DueIn e = omega arith
some DueTick e = omega arith
some Tickets e = omega arith
some Room e = omega arith
some (Late m) e = omega arith
some (Delaying m) e = omega arith

no_ticket : (ticket : ℕ) (d : Decline) → answer_of 0 (Err d) ≡ answer_of ticket (Err d)
no_ticket ticket Costs = refl
no_ticket ticket DueIn = refl
no_ticket ticket DueTick = refl
no_ticket ticket Tickets = refl
no_ticket ticket Room = refl
no_ticket ticket (Late m) = refl
no_ticket ticket (Delaying m) = refl

same : {A : Type 0} (t : Bool) (x : A) → x ≡ cond t x x
same true x = refl
same false x = refl

module _ (image : List ℕ) (b : Block) (reply : List ℕ) where
  module _ (d : Decision) (r : Decides (block_questions (decode image).n b ++ state_questions (decode image) b) (decode image) b d) where
    pub quote_gives : Gives (quote_taken image b reply) (number_of d) image (given_bytes (reply_of 0 d))
    unfolding quote_taken result
    quote_gives =
        record {
          number_is = r.number_is;
          image_is = same (is_zero (block_number image b)) image;
          reply_is = rw (← r.number_is, ne_eqb (number_of d) 1 (never_one d), r.quoted);
        }

    pub offer_done : number_of d ≡ 0 → Gives (offer_taken image b reply) (number_of d) (encode (accept (decode image) b)) (given_bytes (reply_of (decode image).next d))
    unfolding offer_taken result
    offer_done done =
        record {
          number_is = r.number_is;
          image_is = rw (← r.number_is, done);
          reply_is = rw (← r.number_is, ne_eqb (number_of d) 1 (never_one d), r.offered);
        }

  pub offer_declined : {d : Decline} → Decides (block_questions (decode image).n b ++ state_questions (decode image) b) (decode image) b (Err d) → Gives (offer_taken image b reply) (number_of (Err d)) image (given_bytes (reply_of 0 (Err d)))
  unfolding offer_taken result
  offer_declined {d} r =
      record {
        number_is = r.number_is;
        image_is = rw (← r.number_is, ne_eqb (number_of (Err d)) 0 (some d));
        reply_is = rw (← r.number_is, ne_eqb (number_of (Err d)) 1 (never_one (Err d)), no_ticket (decode image).next d, r.offered);
      }

-- What is accepted, and into what.
module _ (image : List ℕ) (b : Block) {a : Accepted} (r : Answers (decode image) b (Ok a)) where
  pub arrives : a.arrival ≡ arrival (decode image) b
  arrives = r.arrives a refl

  pub ticket_is : a.arrival.ticket ≡ (decode image).next
  unfolding arrival
  ticket_is = ap (λ (o : Order). o.ticket) arrives

  pub acceptable : Sound image → length image ≡ image_size → length b.costs ≡ max_stations → Acceptable image b a.arrival
  acceptable ok whole eight =
      record {
        whole = whole;
        is_marked = ok.is_marked;
        is_sound = ok.is_sound;
        fitting = block_fits (decode image) b (rw eight (few_stations image ok.is_sound)) (sym r.decides.number_is);
        arrives = arrives;
      }
