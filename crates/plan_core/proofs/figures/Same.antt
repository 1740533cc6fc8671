-- Base and response over plain numbers are those of the records.
use mathlib.Core.Path.{◌≡◌, refl, sym, ap, ◌∙◌}
use mathlib.Core.List.{List, [], ◌∷◌, map, map-map}
use Prim.Native.Nat.{ℕ, suc}
use Rattle.model.specs.Lists.{total, numbered}
use Rattle.plan_model.specs.declared.Task.{Task}
use Rattle.plan_model.specs.Base.{base, stage_maxima}
use Rattle.plan_model.specs.Response.{share, others, next}
use Rattle.plan_model.specs.Plan.{response}
use Rattle.plan_model.proofs.Sequence.{response_same}
use Rattle.plan_model.proofs.Steps.{others_map}
use Rattle.plan_core.specs.Table.{row_of, rows_of}
use Rattle.plan_core.specs.Response.{share_of, interference_of, step_of}
use Rattle.plan_core.specs.Figures.{figure_at, figures_of}
use Rattle.plan_core.specs.ByValue.{figure, figures}

module _ (n : ℕ) where
  shares_same : (R : ℕ) (tasks : List Task) → map (share_of R) (rows_of n tasks) ≡ map (share n R) tasks
  unfolding share_of share row_of
  shares_same R [] = refl
  shares_same R (t ∷ tasks) = ap (λ (l : List ℕ). share n R t ∷ l) (shares_same R tasks)

  step_same : (tasks : List Task) (i b R : ℕ) → step_of (rows_of n tasks) i b R ≡ next n (others i tasks) b R
  unfolding step_of interference_of next
  step_same tasks i b R = rw (shares_same R tasks, others_map (share n R) i tasks)

  figure_same : (tasks : List Task) (i : ℕ) (t : Task) → figure_at (rows_of n tasks) (total (stage_maxima n tasks)) i (row_of n t) ≡ figure n tasks i t
  unfolding figure_at figure base response row_of
  figure_same tasks i t = rw (response_same _ _ (step_same tasks i (base n tasks t)) t.deadline (base n tasks t))

  each_same : (tasks : List Task) (k : ℕ) (l : List Task) → numbered (figure_at (rows_of n tasks) (total (stage_maxima n tasks))) k (rows_of n l) ≡ numbered (figure n tasks) k l
  unfolding numbered
  each_same tasks k [] = refl
  each_same tasks k (t ∷ l) = rw (figure_same tasks k t, each_same tasks (suc k) l)

  pub figures_same : (tasks : List Task) → figures_of (rows_of n tasks) (total (stage_maxima n tasks)) ≡ figures n tasks
  unfolding figures_of figures
  figures_same tasks = each_same tasks 0 tasks
