-- Which number the first "no" among questions gives, exactly; and that questions 1 to 4 pass where what is lent is usable.
use mathlib.Core.Path.{◌≡◌, refl, sym}
use mathlib.Core.Logic.{inl, inr}
use mathlib.Core.Bool.{true, false, not, true≢false}
use mathlib.Core.List.{List, [], ◌∷◌, ◌++◌}
use Prim.Native.Nat.{ℕ}
use lib.ListN.{length}
use lib.Dec.{eqb}
use borrow.Author.Tests.{eqb-false, not-true}
use Rattle.model.specs.Lists.{all}
use Rattle.model.specs.Layout.{image_size, reply_size}
use Rattle.model.specs.Image.{marked}
use Rattle.model.specs.Soundness.{sound}
use Rattle.model.specs.Questions.{Question, ◌else◌, first_no}
use Rattle.model.specs.Calls.{reply_question, length_question, image_questions}
use Rattle.lists.proofs.Questions.{answer, gives_other}
use Rattle.schedule.proofs.Laws.{and_both, eqb_cases}
use Rattle.image_laws.specs.Iff.{◌⇔◌}
use Rattle.image_laws.specs.Usable.{Usable}
use Rattle.image_laws.proofs.Tests.{Says, eqb_says}

-- A number that none of the first questions gives comes from those after them, where all of the first pass.
pub first_no_lem : (n : ℕ) (l m : List Question) → all (gives_other n) l ≡ true → (first_no (l ++ m) ≡ n) ⇔ ((all answer l ≡ true) × (first_no m ≡ n))
unfolding all first_no answer gives_other
first_no_lem n [] m h = record { only = λ e. (refl, e); if = λ t. t.1 }
first_no_lem n ((true else k) ∷ l) m h = first_no_lem n l m (and_both (not (eqb k n)) (all (gives_other n) l) h).1
first_no_lem n ((false else k) ∷ l) m h =
    record {
      only = λ e. absurd (eqb-false k n (not-true (eqb k n) (and_both (not (eqb k n)) (all (gives_other n) l) h).0) e);
      if = λ t. absurd (true≢false (sym t.0));
    }

-- Question 1 alone gives 1 where it comes first.
pub replied : (reply : List ℕ) (rest : List Question) → (first_no (reply_question reply ∷ rest) ≡ 1 → ⊥) → length reply ≡ reply_size
unfolding first_no reply_question
replied reply rest other = elim (eqb_cases (length reply) reply_size) [ inl t ↦ t.1 | inr t ↦ absurd (other (rw t.0)) ]

pub four_say : (image reply : List ℕ) → Says (all answer (reply_question reply ∷ image_questions image)) (Usable image reply)
unfolding all answer reply_question length_question image_questions
four_say image reply = record { tells = there; passes = back }
  where
    there : all answer (reply_question reply ∷ image_questions image) ≡ true → Usable image reply
    there e =
        let t1 = and_both (eqb (length reply) reply_size) _ e in
        let t2 = and_both (eqb (length image) image_size) _ t1.1 in
        let t3 = and_both (marked image) _ t2.1 in
        let t4 = and_both (sound image) true t3.1 in
        record {
          reply_whole = (eqb_says (length reply) reply_size).tells t1.0;
          image_whole = (eqb_says (length image) image_size).tells t2.0;
          image_marked = t3.0;
          image_sound = t4.0;
        }

    back : Usable image reply → all answer (reply_question reply ∷ image_questions image) ≡ true
    back u =
        rw (
          (eqb_says (length reply) reply_size).passes u.reply_whole,
          (eqb_says (length image) image_size).passes u.image_whole,
          u.image_marked,
          u.image_sound,
        )
