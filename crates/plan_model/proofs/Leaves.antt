-- What plan leaves of a list, and that costs beyond N play no part.
use mathlib.Core.Path.{◌≡◌, refl}
use mathlib.Core.Bool.{Bool, true, false}
use mathlib.Core.List.{List, [], ◌∷◌, map}
use Prim.Native.Nat.{ℕ, suc, ◌-◌}
use native.Mathlib.Omega.{arith}
use lib.ListN.{length-map}
use lib.Seq.{take-take}
use borrow.Author.Tests.{eq-eqb, ne_eqb}
use Rattle.model.specs.Lists.{is_zero, all, numbered}
use Rattle.model.specs.DelayBound.{maxima_of}
use Rattle.plan_model.specs.declared.Task.{Task}
use Rattle.plan_model.specs.Base.{largest_cost, stage_maxima, base}
use Rattle.plan_model.specs.Response.{share, others, next}
use Rattle.plan_model.specs.Plan.{in_range, plan_questions, plan_number, response, with_figures, figured, planned, left_where, after_plan}
use Rattle.plan_model.proofs.Sequence.{response_same}
use Rattle.plan_model.proofs.Steps.{others_map}
use Rattle.plan_model.specs.Meaning.{asked, Leaves, up_to, NotRead}

asked_numbered : (f : ℕ → Task → Task) → ((k : ℕ) (t : Task) → asked (f k t) ≡ asked t) → (k : ℕ) (l : List Task) → map asked (numbered f k l) ≡ map asked l
unfolding numbered
asked_numbered f same k [] = refl
asked_numbered f same k (t ∷ l) = rw (same k t, asked_numbered f same (suc k) l)

asked_planned : (n : ℕ) (tasks : List Task) → map asked (planned n tasks) ≡ map asked tasks
unfolding planned figured with_figures
asked_planned n tasks = asked_numbered (figured n tasks) (λ k t. refl) 0 tasks

asked_left : (b : Bool) (n : ℕ) (tasks : List Task) → map asked (left_where b (planned n tasks) tasks) ≡ map asked tasks
asked_left true n tasks = asked_planned n tasks
asked_left false n tasks = refl

pub leaves : (n : ℕ) (tasks : List Task) → Leaves n tasks
unfolding after_plan
leaves n tasks =
    record {
      declined = λ ne. rw (ne_eqb (plan_number n tasks) 0 ne);
      done = λ e. rw (eq-eqb (plan_number n tasks) 0 e);
      asked_stays = asked_left (is_zero (plan_number n tasks)) n tasks;
    }

-- Every definition that looks at costs takes them up to N.
module _ (n : ℕ) where
  range_cut : (t : Task) → in_range n (up_to n t) ≡ in_range n t
  unfolding in_range
  range_cut t = rw (take-take n n t.costs (omega arith))

  ranges_cut : (tasks : List Task) → all (in_range n) (map (up_to n) tasks) ≡ all (in_range n) tasks
  unfolding all
  ranges_cut [] = refl
  ranges_cut (t ∷ tasks) = rw (range_cut t, ranges_cut tasks)

  number_cut : (tasks : List Task) → plan_number n (map (up_to n) tasks) ≡ plan_number n tasks
  unfolding plan_number plan_questions
  number_cut tasks = rw (ranges_cut tasks, length-map tasks (up_to n))

  largest_cut : (t : Task) → largest_cost n (up_to n t) ≡ largest_cost n t
  unfolding largest_cost
  largest_cut t = rw (take-take n n t.costs (omega arith))

  stages_cut : (tasks : List Task) → stage_maxima n (map (up_to n) tasks) ≡ stage_maxima n tasks
  unfolding stage_maxima maxima_of
  stages_cut [] = refl
  stages_cut (t ∷ tasks) = rw (take-take (n - 1) n t.costs (omega arith), stages_cut tasks)

  base_cut : (tasks : List Task) (t : Task) → base n (map (up_to n) tasks) (up_to n t) ≡ base n tasks t
  unfolding base
  base_cut tasks t = rw (largest_cut t, stages_cut tasks)

  shares_cut : (R : ℕ) (tasks : List Task) → map (share n R) (map (up_to n) tasks) ≡ map (share n R) tasks
  unfolding share
  shares_cut R [] = refl
  shares_cut R (t ∷ tasks) = rw (largest_cut t, shares_cut R tasks)

  next_cut : (k : ℕ) (tasks : List Task) (b R : ℕ) → next n (others k (map (up_to n) tasks)) b R ≡ next n (others k tasks) b R
  unfolding next
  next_cut k tasks b R = rw (← others_map (up_to n) k tasks, shares_cut R (others k tasks))

  figured_cut : (tasks : List Task) (k : ℕ) (t : Task) → figured n (map (up_to n) tasks) k (up_to n t) ≡ up_to n (figured n tasks k t)
  unfolding figured with_figures response
  figured_cut tasks k t =
      rw (base_cut tasks t, response_same _ _ (next_cut k tasks (base n tasks t)) t.deadline (base n tasks t))

  numbered_cut : (f g : ℕ → Task → Task) → ((k : ℕ) (t : Task) → f k (up_to n t) ≡ up_to n (g k t)) → (k : ℕ) (l : List Task) → numbered f k (map (up_to n) l) ≡ map (up_to n) (numbered g k l)
  unfolding numbered
  numbered_cut f g same k [] = refl
  numbered_cut f g same k (t ∷ l) = rw (same k t, numbered_cut f g same (suc k) l)

  pub not_read : (tasks : List Task) → NotRead n tasks
  unfolding planned
  not_read tasks =
      record {
        number = number_cut tasks;
        figures = numbered_cut (figured n (map (up_to n) tasks)) (figured n tasks) (figured_cut tasks) 0 tasks;
      }
