-- What an advance returns and gives: neither 0 nor 13 comes from the first four questions, so that these pass and the clock decides.
use mathlib.Core.Path.{◌≡◌, refl}
use mathlib.Core.Logic.{◌⊎◌, inl, inr}
use mathlib.Core.Bool.{Bool, true, false}
use mathlib.Core.List.{List, [], ◌∷◌, ◌++◌}
use Prim.Native.Nat.{ℕ, ◌+◌, ◌≤◌}
use native.Mathlib.Omega.{arith}
use lib.Dec.{ltb}
use borrow.Author.Tests.{ltb-true, ltb-false, lt-ltb, le-ltb}
use Rattle.model.specs.Limits.{last_tick}
use Rattle.model.specs.Lists.{all}
use Rattle.model.specs.Bytes.{four_bytes}
use Rattle.model.specs.Tick.{advance_out}
use Rattle.model.specs.Image.{decode}
use Rattle.model.specs.Soundness.{clock_in_range}
use Rattle.model.specs.Questions.{◌else◌, first_no, reply_bytes}
use Rattle.model.specs.Calls.{reply_question, length_question, image_questions, advance_number, advance_answer, advance_call, result}
use Rattle.image_laws.specs.Iff.{◌⇔◌}
use Rattle.image_laws.specs.Usable.{Usable}
use Rattle.image_laws.proofs.Tests.{leb_says}
use Rattle.image_laws.proofs.Facts.{sound_says}
use Rattle.lists.proofs.Questions.{gives_other}
use Rattle.image_laws.proofs.Questions.{first_no_lem, four_say}
use Rattle.call_laws.specs.AdvanceExact.{AdvanceNumbers}

-- Question 13 by its answer.
abbrev last : Bool → ℕ
last b = first_no ((b else 13) ∷ [])

last_passes : (b : Bool) → last b ≡ 0 → b ≡ true
unfolding first_no
last_passes true e = refl
last_passes false e = absurd (omega arith)

last_fails : (b : Bool) → last b ≡ 13 → b ≡ false
unfolding first_no
last_fails true e = absurd (omega arith)
last_fails false e = refl

module _ (image reply : List ℕ) where
  clock : ℕ
  clock = (decode image).clock

  -- A sound image's clock is at most the last tick.
  clock_most : Usable image reply → clock ≤ last_tick
  unfolding clock clock_in_range
  clock_most u = (leb_says (decode image).clock last_tick).tells ((sound_says image).tells u.image_sound).clock

  number_is : (n : ℕ) → (n ≡ 0) ⊎ (n ≡ 13) → (advance_number image reply ≡ n) ⇔ (Usable image reply × (last (ltb clock last_tick) ≡ n))
  unfolding advance_number clock all gives_other reply_question length_question image_questions
  number_is n decided =
      let f = first_no_lem n (reply_question reply ∷ image_questions image) ((ltb clock last_tick else 13) ∷ []) (others decided) in
      record { only = λ e. let t = f.only e in ((four_say image reply).tells t.0, t.1); if = λ t. f.if ((four_say image reply).passes t.0, t.1) }
    where
      others : {n : ℕ} → (n ≡ 0) ⊎ (n ≡ 13) → all (gives_other n) (reply_question reply ∷ image_questions image) ≡ true
      others (inl e) = rw e
      others (inr e) = rw e

  given : advance_number image reply ≡ 0 → (advance_call image reply).reply ≡ four_bytes 0 ++ four_bytes (advance_out (decode image)) ++ four_bytes ((decode image).clock + 1) ++ four_bytes 0
  unfolding advance_call result reply_bytes advance_answer
  given e = rw e

pub advance_numbers : AdvanceNumbers
unfolding clock first_no
advance_numbers image reply =
    let c = (decode image).clock in
    let done = number_is image reply 0 (inl refl) in
    let ended = number_is image reply 13 (inr refl) in
    record {
      done =
          record {
            only = λ e. let t = done.only e in (t.0, ltb-true c last_tick (last_passes (ltb c last_tick) t.1));
            if = λ t. done.if (t.0, rw (lt-ltb c last_tick t.1));
          };
      ended =
          record {
            only = λ e.
                let t = ended.only e in
                (t.0, omega (arith, ltb-false c last_tick (last_fails (ltb c last_tick) t.1), clock_most image reply t.0));
            if = λ t. ended.if (t.0, rw (le-ltb c last_tick (omega (arith, t.1))));
          };
      given = given image reply;
    }
