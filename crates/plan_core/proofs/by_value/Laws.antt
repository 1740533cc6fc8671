-- What the core gives has plan's number, and the list with its figures is the list as a done plan leaves it.
use mathlib.Core.Path.{◌≡◌, refl}
use mathlib.Core.Bool.{Bool, true, false, cond}
use mathlib.Core.List.{List, [], ◌∷◌}
use Prim.Native.Nat.{ℕ}
use lib.ListN.{length}
use Rattle.std.specs.Prelude.{Result, Ok, Err}
use Rattle.arrayvec.specs.ArrayVec.{ArrayVec}
use Rattle.model.specs.Limits.{max_stations}
use Rattle.model.specs.Lists.{within, is_zero, all}
use Rattle.model.specs.Questions.{◌else◌, first_no}
use Rattle.plan_model.specs.declared.Task.{Task}
use Rattle.plan_model.specs.Limits.{max_tasks}
use Rattle.plan_model.specs.Plan.{in_range, plan_questions, plan_number, planned, left_where, after_plan}
use Rattle.plan_core.specs.declared.figures.Figure.{Figure}
use Rattle.plan_core.specs.declared.refusal.Refusal.{Refusal}
use Rattle.plan_core.specs.declared.refusal.Refusal.TheVariants.{Stations, Count, Figures}
use Rattle.plan_core.specs.Refusal.{number_of}
use Rattle.plan_core.specs.ByValue.{figures, core_of}

abbrev Core : Type 0
Core = Result (ArrayVec Figure) Refusal

-- The three questions in a row.
abbrev three : Bool → Bool → Bool → List Figure → Core
three a b c fs = cond a (cond b (cond c (Ok (record { items = fs })) (Err Figures)) (Err Count)) (Err Stations)

done_by : (a b c : Bool) (fs : List Figure) (r : ArrayVec Figure) → Ok r ≡ three a b c fs → (0 ≡ first_no ((a else 14) ∷ (b else 17) ∷ (c else 18) ∷ [])) × (r.items ≡ fs)
unfolding first_no
done_by true true true fs r e = (refl, cc)
done_by true true false fs r e = (cc, cc)
done_by true false c fs r e = (cc, cc)
done_by false b c fs r e = (cc, cc)

refused_by : (a b c : Bool) (fs : List Figure) (f : Refusal) → Err f ≡ three a b c fs → number_of f ≡ first_no ((a else 14) ∷ (b else 17) ∷ (c else 18) ∷ [])
unfolding first_no
refused_by true true true fs f e = cc
refused_by true true false fs f e = cc
refused_by true false c fs f e = cc
refused_by false b c fs f e = cc

pub done : (n : ℕ) (tasks : List Task) (r : ArrayVec Figure) → Ok r ≡ core_of n tasks → (0 ≡ plan_number n tasks) × (r.items ≡ figures n tasks)
unfolding core_of plan_number plan_questions
done n tasks r e = done_by (within 1 max_stations n) (within 1 max_tasks (length tasks)) (all (in_range n) tasks) (figures n tasks) r e

pub refused : (n : ℕ) (tasks : List Task) (f : Refusal) → Err f ≡ core_of n tasks → number_of f ≡ plan_number n tasks
unfolding core_of plan_number plan_questions
refused n tasks f e = refused_by (within 1 max_stations n) (within 1 max_tasks (length tasks)) (all (in_range n) tasks) (figures n tasks) f e

-- The list after a decline, and after a done plan.
left_by : (k : ℕ) (f : Refusal) (done tasks : List Task) → number_of f ≡ k → tasks ≡ left_where (is_zero k) done tasks
left_by k Stations done tasks e = rw (← e)
left_by k Count done tasks e = rw (← e)
left_by k Figures done tasks e = rw (← e)

pub refused_left : (n : ℕ) (tasks : List Task) (f : Refusal) → Err f ≡ core_of n tasks → tasks ≡ after_plan n tasks
unfolding after_plan
refused_left n tasks f e = left_by (plan_number n tasks) f (planned n tasks) tasks (refused n tasks f e)

pub done_left : (n : ℕ) (tasks : List Task) (r : ArrayVec Figure) → Ok r ≡ core_of n tasks → planned n tasks ≡ after_plan n tasks
unfolding after_plan
done_left n tasks r e = rw (← (done n tasks r e).0)
