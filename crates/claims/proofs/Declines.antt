-- What a decline leaves, read off the calls by their number.
use mathlib.Core.Path.{◌≡◌, refl, ap}
use mathlib.Core.Bool.{◌||◌}
use mathlib.Core.Logic.{◌≢◌}
use mathlib.Core.List.{List}
use Prim.Native.Nat.{ℕ}
use lib.Dec.{eqb}
use borrow.Author.Tests.{ne_eqb}
use Rattle.model.specs.declared.Block.{Block}
use Rattle.model.specs.State.{State}
use Rattle.model.specs.Questions.{Answer, reply_bytes, zeros}
use Rattle.model.specs.Image.{decode}
use Rattle.model.specs.Admission.{block_of, offer_answer, quote_answer}
use Rattle.model.specs.Formats.{format_block}
use Rattle.model.specs.Calls.{result, open_number, open_call, offer_number, offer_call, quote_call, format_number, offer_format_call, quote_format_call, advance_number, advance_answer, advance_call, opening, quoting, offering, quoting_format, offering_format, advancing, perform}
use Rattle.schedule.proofs.Laws.{by_cond}
use Rattle.claims.specs.Declines.{DeclinedAt, Declines}

-- Of an answer whose ticket and tick are 0, and whose margin is 0 but with 11 and 12.
pub record Zero (number : ℕ) (a : Answer) : Type 0 where
  pub ticket : a.ticket ≡ 0
  pub tick : a.tick ≡ 0
  pub rest : number ≢ 11 → number ≢ 12 → a ≡ zeros

declined : (number : ℕ) (a : Answer) (image done reply : List ℕ) → number ≢ 0 → Zero number a → DeclinedAt image reply (result number a image done reply)
unfolding result reply_bytes
declined number a image done reply other z =
    record {
      image_left = rw (ne_eqb number 0 other);
      reply_left = λ e. rw e;
      reply_whole = λ heard. rw (ne_eqb number 1 heard);
      number_given = λ heard. rw (ne_eqb number 1 heard, z.ticket, z.tick);
      all_given = λ heard m n. rw (ne_eqb number 1 heard, z.rest m n);
    }

plain : (number : ℕ) → Zero number zeros
plain number = record { ticket = refl; tick = refl; rest = λ m n. refl }

-- An offer's answer with another number than 0.
late_only : (number : ℕ) (s : State) (b : Block) → number ≢ 0 → Zero number (offer_answer number s b)
unfolding offer_answer
late_only number s b other =
    rw (ne_eqb number 0 other) (record {
      ticket = by_cond (λ (a : Answer). a.ticket ≡ 0) (eqb number 11 || eqb number 12) refl refl;
      tick = by_cond (λ (a : Answer). a.tick ≡ 0) (eqb number 11 || eqb number 12) refl refl;
      rest = λ m n. rw (ne_eqb number 11 m, ne_eqb number 12 n);
    })

quoted : (number : ℕ) (s : State) (b : Block) → number ≢ 0 → Zero number (quote_answer number s b)
unfolding quote_answer
quoted number s b other =
    let z = late_only number s b other in
    record { ticket = refl; tick = z.tick; rest = λ m n. ap (λ (a : Answer). record { ticket = 0; tick = a.tick; margin = a.margin }) (z.rest m n) }

advanced : (number : ℕ) (s : State) → number ≢ 0 → Zero number (advance_answer number s)
unfolding advance_answer
advanced number s other = rw (ne_eqb number 0 other) (plain number)

pub declines : Declines
unfolding perform open_call quote_call offer_call quote_format_call offer_format_call advance_call
declines (opening n) image reply other = declined (open_number image n reply) zeros image _ reply (unfold result in other) (plain _)
declines (quoting block) image reply other =
    let number = offer_number image block reply in
    let o : number ≢ 0 = unfold result in other in
    declined number _ image _ reply o (quoted number (decode image) (block_of block) o)
declines (offering block) image reply other =
    let number = offer_number image block reply in
    let o : number ≢ 0 = unfold result in other in
    declined number _ image _ reply o (late_only number (decode image) (block_of block) o)
declines (quoting_format f) image reply other =
    let number = format_number image f reply in
    let o : number ≢ 0 = unfold result in other in
    declined number _ image _ reply o (quoted number (decode image) (format_block (decode image).n f) o)
declines (offering_format f) image reply other =
    let number = format_number image f reply in
    let o : number ≢ 0 = unfold result in other in
    declined number _ image _ reply o (late_only number (decode image) (format_block (decode image).n f) o)
declines advancing image reply other =
    let number = advance_number image reply in
    let o : number ≢ 0 = unfold result in other in
    declined number _ image _ reply o (advanced number (decode image) o)
