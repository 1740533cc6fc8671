-- The list as the walk leaves it: the records so far are a done plan's, and the next one is as it was.
use mathlib.Core.Path.{◌≡◌, ◌∙◌}
use mathlib.Core.List.{List, ◌++◌, append-nil}
use Prim.Native.Nat.{ℕ, ◌+◌, ◌≤◌, ◌<◌}
use native.Mathlib.Nat.{zero-add}
use native.Mathlib.Numerals.{add-one}
use native.Mathlib.Omega.{arith}
use lib.ListN.{length, get_or, set, take, drop, drop_of_length-le}
use lib.Seq.{take-suc, take_all, length-take-le}
use Rattle.lists.proofs.Fills.{front_read, front_set}
use Rattle.lists.proofs.Tests.{length-numbered, get_d_from}
use Rattle.plan_model.specs.declared.Task.{Task}
use Rattle.plan_model.specs.Plan.{with_figures, figured, planned}
use Rattle.plan_model.specs.Records.{beyond}
use Rattle.plan_core.specs.declared.figures.Figure.{Figure}
use Rattle.plan_core.specs.ByValue.{figure, figures}

abbrev pub walked : ℕ → List Task → ℕ → List Task
walked n tasks i = take i (planned n tasks) ++ drop i tasks

-- What stands where no figures do.
abbrev pub none : Figure
none = record { base = 0; response = 0 }

length-planned : (n : ℕ) (tasks : List Task) → length (planned n tasks) ≡ length tasks
unfolding planned
length-planned n tasks = length-numbered (figured n tasks) 0 tasks

pub length-figures : (n : ℕ) (tasks : List Task) → length (figures n tasks) ≡ length tasks
unfolding figures
length-figures n tasks = length-numbered (figure n tasks) 0 tasks

pub walked_all : (n : ℕ) (tasks : List Task) (i : ℕ) → length tasks ≤ i → walked n tasks i ≡ planned n tasks
walked_all n tasks i h =
    rw (take_all i (planned n tasks) (omega (arith, length-planned n tasks)), drop_of_length-le tasks {i = i} h) (append-nil (planned n tasks))

module _ (n : ℕ) (tasks : List Task) (i : ℕ) (h : i < length tasks) where
  abbrev so_far : List Task
  so_far = take i (planned n tasks)

  so_many : length so_far ≡ i
  so_many = length-take-le i (planned n tasks) (omega (arith, length-planned n tasks))

  next : get_or (planned n tasks) i beyond ≡ figured n tasks i (get_or tasks i beyond)
  unfolding planned
  next = get_d_from (figured n tasks) 0 tasks i beyond beyond h ∙ rw (zero-add i)

  figures_at : get_or (figures n tasks) i none ≡ figure n tasks i (get_or tasks i beyond)
  unfolding figures
  figures_at = get_d_from (figure n tasks) 0 tasks i beyond none h ∙ rw (zero-add i)

  filled : (f : Figure) → f ≡ figure n tasks i (get_or tasks i beyond) → with_figures (get_or tasks i beyond) f.base f.response ≡ figured n tasks i (get_or tasks i beyond)
  unfolding figure figured
  filled f e = rw e

  pub walked_next : (fs : List Figure) → fs ≡ figures n tasks → set (walked n tasks i) i (with_figures (get_or (walked n tasks i) i beyond) (get_or fs i none).base (get_or fs i none).response) ≡ walked n tasks (i + 1)
  walked_next fs e =
      let there : i < length (planned n tasks) = omega (arith, length-planned n tasks) in
      rw (front_read so_far tasks i so_many beyond, filled (get_or fs i none) (rw e figures_at), ← next, front_set so_far tasks i so_many (get_or (planned n tasks) i beyond) h, add-one i, take-suc (planned n tasks) i beyond there)
