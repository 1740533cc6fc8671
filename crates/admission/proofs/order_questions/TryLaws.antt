-- An order is on time exactly when its margin is not below zero, so the smallest margin's sign answers question 12 once question 11 is passed.
use mathlib.Core.Path.{◌≡◌, refl, sym, ap, ◌∙◌}
use mathlib.Core.Bool.{Bool, true, false, not, cond, ◌||◌}
use mathlib.Core.List.{[], ◌∷◌, map}
use lib.ListN.{drop}
use lib.IntN.{ℤ, pos}
use lib.Signed.{lt_z}
use mir.Syntax.{w32}
use mir.Val.{SFits}
use Rattle.std.specs.Prelude.{Ok, Err}
use Rattle.model.specs.declared.Block.{Block}
use Rattle.model.specs.Lists.{all}
use Rattle.model.specs.State.{State}
use Rattle.model.specs.DelayBound.{bound_tick, on_time, margin}
use Rattle.model.specs.Questions.{first_no}
use Rattle.model.specs.Admission.{arrival, joined_live, smallest, smallest_margin, state_questions, offer_answer, quote_answer}
use Rattle.lists.proofs.Signs.{flip}
use Rattle.call_laws.proofs.offers.Signs.{margin_sign, sign_smallest}
use Rattle.admission.proofs.margins.LeastLaws.{smallest_joined, below_largest}
use Rattle.admission.specs.declared.decision.Decline.TheVariants.{Late, Delaying}
use Rattle.admission.specs.Decision.{Decision, decision_of}
use Rattle.admission.specs.OrderQuestions.{Decides}

-- The decision by the two margins.
module _ (s : State) (b : Block) (others : ℤ) (others_are : others ≡ smallest (pos 2147483647) (map (margin s.n) (joined_live s b))) (fits : SFits w32 (margin s.n (arrival s b))) where
  own : ℤ
  own = margin s.n (arrival s b)

  least : ℤ
  least = smallest (margin s.n (arrival s b)) (others ∷ [])

  smallest_is : least ≡ smallest_margin s b
  unfolding least smallest_margin
  smallest_is =
      ap (λ (m : ℤ). smallest (margin s.n (arrival s b)) (m ∷ [])) others_are
      ∙ smallest_joined (margin s.n (arrival s b)) (pos 2147483647) (map (margin s.n) (joined_live s b)) (below_largest (margin s.n (arrival s b)) fits)

  -- Question 11 by the arrival's margin, and 12 by the smallest.
  own_time : (t : Bool) → lt_z own (pos 0) ≡ t → on_time s.n (arrival s b) ≡ not t
  unfolding own
  own_time t e = flip (on_time s.n (arrival s b)) t (sym (margin_sign s.n (arrival s b)) ∙ e)

  live_time : (t : Bool) → lt_z own (pos 0) ≡ false → lt_z least (pos 0) ≡ t → all (on_time s.n) (joined_live s b) ≡ not t
  unfolding own smallest_margin
  live_time t p e =
      flip (all (on_time s.n) (joined_live s b)) t
      (sym (sign_smallest s.n own (joined_live s b) ∙ ap (λ (x : Bool). x || not (all (on_time s.n) (joined_live s b))) p) ∙ sym (ap (λ (m : ℤ). lt_z m (pos 0)) smallest_is) ∙ e)

  abbrev Last : Decision → Type 0
  Last d = Decides (drop 3 (state_questions s b)) s b d

  pub decides : Last (decision_of s.n (arrival s b) others)
  unfolding own least decision_of state_questions first_no offer_answer quote_answer
  decides = go (lt_z own (pos 0)) (lt_z least (pos 0)) refl refl
    where
      go : (t u : Bool) → lt_z own (pos 0) ≡ t → lt_z least (pos 0) ≡ u → Last (cond t (Err (Late least)) (cond u (Err (Delaying least)) (Ok (record { tick = bound_tick s.n (arrival s b); margin = least }))))
      go true u p q = record { number_is = rw (own_time true p); offered = rw smallest_is; quoted = rw smallest_is }
      go false true p q = record { number_is = rw (own_time false p, live_time true p q); offered = rw smallest_is; quoted = rw smallest_is }
      go false false p q = record { number_is = rw (own_time false p, live_time false p q); offered = rw smallest_is; quoted = rw smallest_is }
