-- Which of the three is printed, and which line is named: the first false of a list of tests, and the first line whose call gives something else.
use mathlib.Core.Path.{◌≡◌, refl, sym, ap, ◌∙◌}
use mathlib.Core.Logic.{inl, inr}
use mathlib.Core.Bool.{Bool, true, false, true≢false}
use mathlib.Core.List.{List, [], ◌∷◌, ◌++◌}
use Prim.Native.Nat.{ℕ, zero, suc, ◌+◌, ◌<◌}
use native.Mathlib.Omega.{arith}
use lib.ListN.{length, get_or}
use lib.Dec.{eqb}
use borrow.Author.Tests.{eq-eqb, ne_eqb, eqb-true}
use Rattle.model.specs.Lists.{at}
use Rattle.model.specs.Bytes.{word}
use Rattle.model.specs.State.{fresh}
use Rattle.model.specs.Layout.{reply_ticket_at}
use Rattle.model.specs.Image.{encode}
use Rattle.model.specs.Calls.{Result, perform}
use Rattle.schedule.proofs.Laws.{and_both, test}
use Rattle.log_model.specs.Lines.{Line, call_of, number_of, ticket_of}
use Rattle.log_model.specs.Rerun.{lent_reply, agrees, first_difference, differs_at}
use Rattle.log_model.specs.Output.{first_false, refused_at, stations_in, calls_in, refused_line, result_of, rerun_output}
use Rattle.log_laws.specs.Meaning.{Gives, AllGive, forms, image_after, PrintsAsAsked}
use Rattle.log_laws.proofs.Replies.{reply_makes_no_difference}

-- ---- the first false
first_false_lem : (l : List Bool) (k i : ℕ) → get_or l i true ≡ false → ((j : ℕ) → j < i → get_or l j true ≡ true) → first_false k l ≡ k + i
unfolding first_false
first_false_lem [] k zero e before = absurd (true≢false e)
first_false_lem [] k (suc i) e before = absurd (true≢false e)
first_false_lem (true ∷ l) k zero e before = absurd (true≢false e)
first_false_lem (true ∷ l) k (suc i) e before = first_false_lem l (suc k) i e (λ j h. before (suc j) (omega arith)) ∙ omega arith
first_false_lem (false ∷ l) k zero e before = omega arith
first_false_lem (false ∷ l) k (suc i) e before = absurd (true≢false (sym (before 0 (omega arith))))

none_false : (l : List Bool) (k : ℕ) → ((i : ℕ) → get_or l i true ≡ true) → first_false k l ≡ 0
unfolding first_false
none_false [] k all = refl
none_false (true ∷ l) k all = none_false l (suc k) (λ i. all (suc i))
none_false (false ∷ l) k all = absurd (true≢false (sym (all 0)))

-- ---- the first line that disagrees
agrees_where : (line : Line) (r : Result) → r.number ≡ number_of line → word r.reply reply_ticket_at ≡ ticket_of line → agrees line r ≡ true
unfolding agrees
agrees_where line r number ticket = rw (eq-eqb r.number (number_of line) number, eq-eqb (word r.reply reply_ticket_at) (ticket_of line) ticket)

given_agrees : (image : List ℕ) (line : Line) → Gives image line → agrees line (perform (call_of line) image lent_reply) ≡ true
given_agrees image line given = let t = given lent_reply refl in agrees_where line (perform (call_of line) image lent_reply) t.0 t.1

pub agreed_gives : (image : List ℕ) (line : Line) → agrees line (perform (call_of line) image lent_reply) ≡ true → Gives image line
unfolding agrees
agreed_gives image line e reply whole =
    let r = perform (call_of line) image lent_reply in
    let t = and_both (eqb r.number (number_of line)) (eqb (word r.reply reply_ticket_at) (ticket_of line)) e in
    rw (reply_makes_no_difference line image reply lent_reply whole refl) (eqb-true r.number (number_of line) t.0, eqb-true (word r.reply reply_ticket_at) (ticket_of line) t.1)

other_disagrees : (image : List ℕ) (line : Line) → (Gives image line → ⊥) → agrees line (perform (call_of line) image lent_reply) ≡ false
other_disagrees image line other =
    elim (test (agrees line (perform (call_of line) image lent_reply))) [ inl t ↦ absurd (other (agreed_gives image line t)) | inr t ↦ t ]

first_other : (before later : List Line) (line : Line) (k : ℕ) (image : List ℕ) → AllGive image before → (Gives (image_after image before) line → ⊥) → first_difference k image (before ++ (line ∷ later)) ≡ length before + k
unfolding first_difference
first_other [] later line k image given other = rw (other_disagrees image line other) (omega arith)
first_other (first ∷ before) later line k image given other =
    rw (given_agrees image first given.0) (first_other before later line (k + 1) (perform (call_of first) image lent_reply).image given.1 other ∙ omega arith)

none_other : (calls : List Line) (k : ℕ) (image : List ℕ) → AllGive image calls → first_difference k image calls ≡ 0
unfolding first_difference
none_other [] k image given = refl
none_other (line ∷ later) k image given = rw (given_agrees image line given.0) (none_other later (k + 1) (perform (call_of line) image lent_reply).image given.1)

-- ---- what is printed
module _ (log : List ℕ) where
  of_the_form : ((k : ℕ) → at true (forms log) k ≡ true) → refused_at log ≡ 0
  unfolding refused_at
  of_the_form all = none_false (forms log) 1 (λ i. all (suc i))

  refused_by : (k : ℕ) → at true (forms log) k ≡ false → ((j : ℕ) → j < k → at true (forms log) j ≡ true) → rerun_output log ≡ refused_line k
  unfolding rerun_output refused_at
  refused_by zero e before = absurd (true≢false e)
  refused_by (suc i) e before =
      let first : first_false 1 (forms log) ≡ suc i = first_false_lem (forms log) 1 i e (λ j h. before (suc j) (omega arith)) ∙ omega arith in
      rw (first, ne_eqb (suc i) 0 (λ z. omega arith))

pub prints_as_asked : PrintsAsAsked
unfolding rerun_output result_of differs_at
prints_as_asked log =
    record {
      refused = refused_by log;
      differs = λ all before later line is given other.
          let first : first_difference 2 (encode (fresh (stations_in log))) (calls_in log) ≡ length before + 2 =
          ap (λ (l : List Line). first_difference 2 (encode (fresh (stations_in log))) l) is ∙ first_other before later line 2 (encode (fresh (stations_in log))) given other in
          rw (of_the_form log all, first, ne_eqb (length before + 2) 0 (λ z. omega arith));
      same = λ all given. rw (of_the_form log all, none_other (calls_in log) 2 (encode (fresh (stations_in log))) given);
    }
