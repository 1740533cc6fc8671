-- The call by its number where one of the first four questions says "no", and by the state where none does.
use mathlib.Core.Path.{◌≡◌, refl, sym, ap, ◌∙◌}
use mathlib.Core.List.{List, [], ◌∷◌, ◌++◌}
use Prim.Native.Nat.{ℕ, ◌+◌, ◌≤◌, ◌<◌}
use lib.IntN.{pos}
use lib.ListN.{length}
use native.Mathlib.Omega.{arith}
use lib.Dec.{ltb}
use borrow.Author.Tests.{ne_eqb}
use Rattle.model.specs.declared.Service.{Service}
use Rattle.model.specs.Limits.{last_tick}
use Rattle.model.specs.Lists.{all}
use Rattle.model.specs.Bytes.{word}
use Rattle.model.specs.Layout.{image_size, clock_at, reply_size}
use Rattle.model.specs.State.{State}
use Rattle.model.specs.Tick.{ticket_out, starts, tick, advance, advance_out}
use Rattle.model.specs.Image.{decode, encode}
use Rattle.model.specs.Questions.{◌else◌, first_no, reply_bytes, zeros}
use Rattle.model.specs.Calls.{length_question, image_questions, advance_number, advance_answer, advance_call, result}
use Rattle.image.specs.declared.pipeline.Pipeline.{Pipeline}
use Rattle.image.specs.Pipeline.{listed}
use Rattle.image_laws.specs.SoundFacts.{SoundInRange}
use Rattle.image_laws.specs.Usable.{Usable}
use Rattle.lists.proofs.Questions.{decides, spares, never}
use Rattle.image_laws.proofs.Read.{decode_clock}
use Rattle.call_laws.proofs.advances.Exact.{advance_numbers}
use Rattle.dispatcher.specs.Gives.{Gives}
use Rattle.dispatcher.specs.Comes.{Sound}
use Rattle.dispatcher.proofs.replies.Declines.{declines, untouched, too_short, with_reply}

-- The clock of the image is the state's.
pub early_clock : (image : List ℕ) {clock : ℕ} (p : Pipeline) → clock ≡ word image clock_at → listed p ≡ decode image → clock < last_tick → p.clock < last_tick
unfolding listed
early_clock image p is said early = omega (arith, ap (λ (s : State). s.clock) said, is ∙ decode_clock image, early)

module _ (image reply : List ℕ) where
  -- Question 1 says "no".
  pub advance_untouched : (length reply ≡ reply_size → ⊥) → Gives (advance_call image reply) 1 image reply
  unfolding advance_call advance_number
  advance_untouched short = untouched _ _ _ _ _ (too_short reply _ short)

  -- A number other than 0 goes with zeros.
  declined_by_lem : (number : ℕ) → number ≡ advance_number image reply → (number ≡ 0 → ⊥) → (number ≡ 1 → ⊥) → Gives (advance_call image reply) number image (reply_bytes number zeros)
  unfolding advance_call advance_answer
  declined_by_lem number is some other = rw (← is) (declines number _ image _ reply some other (rw (ne_eqb number 0 some)))

  -- One of questions 2 to 4 does.
  module _ (whole : length reply ≡ reply_size) (number : ℕ) (is : number ≡ first_no (image_questions image)) (some : number ≡ 0 → ⊥) where
    number_is : number ≡ advance_number image reply
    unfolding advance_number image_questions
    number_is =
        decides (image_questions image) ((ltb (decode image).clock last_tick else 13) ∷ []) number is some
        ∙ sym (with_reply reply (image_questions image ++ ((ltb (decode image).clock last_tick else 13) ∷ [])) whole)

    not_one : number ≡ 1 → ⊥
    unfolding all spares image_questions length_question
    not_one e = never 1 (omega arith) (image_questions image) refl (sym is ∙ e)

    pub declined : Gives (advance_call image reply) number image (reply_bytes number zeros)
    declined = declined_by_lem number number_is some not_one

  -- None of the first four does.
  pub usable : length reply ≡ reply_size → length image ≡ image_size → Sound image → Usable image reply
  usable whole long ok = record { reply_whole = whole; image_whole = long; image_marked = ok.is_marked; image_sound = ok.is_sound }

  -- The clock of the image decides.
  module _ (u : Usable image reply) (clock : ℕ) (is : clock ≡ word image clock_at) where
    clock_is : clock ≡ (decode image).clock
    clock_is = is ∙ decode_clock image

    pub ended : SoundInRange (decode image) → last_tick ≤ clock → (number : ℕ) → number ≡ 13 → Gives (advance_call image reply) number image (reply_bytes number zeros)
    ended ok last number is =
        let thirteen = (advance_numbers image reply).ended.if (u, omega (arith, clock_is, ok.facts.clock)) in
        declined_by_lem number (is ∙ sym thirteen) (λ e. omega arith) (λ e. omega arith)

    -- The state that is carried is the image's.
    module _ (early : clock < last_tick) (p : Pipeline) (said : listed p ≡ decode image) where
      out_is : {services : List Service} {n out : ℕ} → services ≡ (tick (starts (listed p))).services → n ≡ p.n → out ≡ ticket_out n services → out ≡ advance_out (decode image)
      unfolding advance_out listed tick starts
      out_is s n o = rw (o, n, s) (ap advance_out said)

      new_clock : p.clock + 1 ≡ (decode image).clock + 1
      unfolding listed
      new_clock = ap (λ (t : State). t.clock + 1) said

      pub done : {services : List Service} {n out : ℕ} {m : List ℕ} → services ≡ (tick (starts (listed p))).services → n ≡ p.n → out ≡ ticket_out n services → m ≡ encode (advance (listed p)) → Gives (advance_call image reply) 0 m (reply_bytes 0 (record { ticket = out; tick = p.clock + 1; margin = pos 0 }))
      unfolding advance_call result reply_bytes
      done s n o m =
          let exact = advance_numbers image reply in
          let zero = exact.done.if (u, omega (arith, clock_is)) in
          record {
            number_is = sym zero;
            image_is = m ∙ ap (λ (t : State). encode (advance t)) said ∙ rw zero;
            reply_is = rw (out_is s n o, new_clock) (sym (exact.given zero));
          }
