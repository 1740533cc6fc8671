-- A use of what is claimed of plan, on document 01's two tables: a task that is on time, one that is late, a decline, and costs beyond N.
use mathlib.Core.Path.{◌≡◌, refl, sym, ap, ◌∙◌}
use mathlib.Core.Bool.{true, false, true≢false}
use mathlib.Core.List.{List, [], ◌∷◌, ◌++◌}
use Prim.Native.Nat.{ℕ, zero, suc, ◌≤◌, ◌<◌}
use native.Mathlib.Omega.{arith}
use lib.ListN.{length, get_or, replicate}
use borrow.Author.Tests.{eqb-false}
use Rattle.model.specs.Lists.{rounded_up, concat, all}
use Rattle.text.specs.Ascii.{ascii}
use Rattle.plan_model.specs.declared.Task.{Task}
use Rattle.plan_model.specs.declared.Verdict.TheVariants.{OnTime}
use Rattle.plan_model.specs.Response.{releases, others, next, ends, verdict_of}
use Rattle.plan_model.specs.Plan.{planned, after_plan}
use Rattle.plan_model.specs.Input.{task_of}
use Rattle.plan_model.specs.Meaning.{sequence, FirstEnd, FirstPast, Meant, Asked, asked}
use Rattle.plan_model.specs.Overlap.{overlaps, apart, Counted}
use Rattle.plan_model.specs.Thesis.{ByThesis}
use Rattle.plan_model.specs.Cases.{◌prints◌, is_printed, ◌has◌, is_thesis_row, late_lines, largest_response, is_numbered}
use Rattle.claims.proofs.Claims.{claims}
use Rattle.uses.proofs.Words.{Figure, Bytes}

-- "For `2`, `10 10 2 3`, `8 8 1 2`", and "With deadline 7 for task 2".
tasks : ℕ → List Task
tasks deadline = task_of (10 ∷ 10 ∷ 2 ∷ 3 ∷ []) ∷ task_of (8 ∷ deadline ∷ 1 ∷ 2 ∷ []) ∷ []

-- The task at a place, with its figures.
abbrev task : ℕ → ℕ → Task
task deadline k = get_or (planned 2 (tasks deadline)) k (task_of [])

abbrev step : ℕ → ℕ → ℕ → ℕ
step deadline k = next 2 (others k (tasks deadline)) (task deadline k).base

abbrev MeantOf : ℕ → ℕ → Type 0
MeantOf deadline k = Meant (step deadline k) (task deadline k).deadline (task deadline k).base (task deadline k).response (task deadline k).verdict

first_meant : MeantOf 8 0
unfolding is_numbered is_printed tasks
first_meant = claims.plan_means 2 (tasks 8) refl 0 (task_of []) (omega arith)

-- ---- the first task: R is 5, then 9, which repeats
first_place : (e : FirstEnd (step 8 0) 10 5 9) → e.place ≡ 1
unfolding is_numbered is_printed tasks sequence
first_place e = go e.place e.is e.none_before refl
  where
    go : (place : ℕ) → 9 ≡ sequence (step 8 0) 5 place → ((j : ℕ) → j < place → ends (step 8 0) 10 (sequence (step 8 0) 5 j) ≡ false) → e.place ≡ place → e.place ≡ 1
    go zero is before q = absurd (let w : ◌≡◌ {A = ℕ} 9 5 = is in let z : ⊥ = omega (arith, w) in z)
    go (suc zero) is before q = q
    go (suc (suc place)) is before q = absurd (true≢false (sym e.ended ∙ before 1 (omega arith)))

first_figures : Figure 5 × Figure 9 × (5 ≤ 48000) × (9 ≤ 8928048000)
unfolding is_numbered is_printed tasks sequence
first_figures = (refl {a = (task 8 0).base}, refl {a = (task 8 0).response}, first_meant.base_most, first_meant.response_most)

first_rises : (5 ≤ 9) × (9 ≤ 9)
unfolding is_numbered is_printed tasks sequence
first_rises = (first_meant.never_falls 0, first_meant.never_falls 1)

first_ends : first_meant.first_end.place ≡ 1
unfolding is_numbered is_printed tasks
first_ends = first_place first_meant.first_end

-- On time: a fixed point below the deadline; 11 is another at or above the base, and 9 is the least.
first_on_time : (5 ≤ 9) × (9 < 10) × Figure 9 × (9 ≤ 11)
unfolding is_numbered is_printed tasks
first_on_time = let f = first_meant.on_time refl in (f.above, f.below, f.fixed, f.least 11 (omega arith) (refl {a = 11}))

-- ---- the second task with deadline 7: R is 4, then 10, which is not below the deadline
second_meant : MeantOf 7 1
unfolding is_numbered is_printed tasks
second_meant = claims.plan_means 2 (tasks 7) refl 1 (task_of []) (omega arith)

second_place : (e : FirstPast (step 7 1) 7 4 10) → e.place ≡ 1
unfolding is_numbered is_printed tasks sequence
second_place e = go e.place e.is e.none_before refl
  where
    go : (place : ℕ) → 10 ≡ sequence (step 7 1) 4 place → ((j : ℕ) → j < place → sequence (step 7 1) 4 j < 7) → e.place ≡ place → e.place ≡ 1
    go zero is before q = absurd (let w : ◌≡◌ {A = ℕ} 10 4 = is in let z : ⊥ = omega (arith, w) in z)
    go (suc zero) is before q = q
    go (suc (suc place)) is before q = absurd (let w : 10 < 7 = before 1 (omega arith) in let z : ⊥ = omega (arith, w) in z)

second_late : ((place : ℕ) × (place ≡ 1)) × (7 ≤ 10)
unfolding is_numbered is_printed tasks
second_late = let p = second_meant.late refl in ((p.place, second_place p), p.past)

-- ---- what is counted: of the releases in ticks 5 and 15, with deadline 6 and period 10, both can overlap the 6 ticks from tick 10 on, and no task has more;
-- with deadline 5 one is all
abbrev counted : (deadline : ℕ) → Counted 6 deadline 10
counted deadline = claims.plan_counts 6 deadline 10 (omega arith)

two_count : 2 ≤ releases 6 6 10
unfolding apart all overlaps
two_count = (counted 6).no_more (record { from = 10; ticks = 5 ∷ 15 ∷ []; a_period_apart = refl {a = true}; each_overlaps = refl {a = true} })

so_many : (length (counted 6).most.ticks ≡ 2) × (length (counted 5).most.ticks ≡ 1)
unfolding releases rounded_up
so_many = ((counted 6).as_many, (counted 5).as_many)

such_releases : (apart 10 (counted 6).most.ticks ≡ true) × (all (overlaps 6 6 (counted 6).most.from) (counted 6).most.ticks ≡ true)
such_releases = ((counted 6).most.a_period_apart, (counted 6).most.each_overlaps)

-- One that is inside when no tick is asked for, and none that must be out by then.
none_asked : (1 ≤ releases 0 2 2) × (length (claims.plan_counts 0 1 1 (omega arith)).most.ticks ≡ 0)
unfolding apart all overlaps releases rounded_up
none_asked =
    ((claims.plan_counts 0 2 2 (omega arith)).no_more (record { from = 1; ticks = 0 ∷ []; a_period_apart = refl {a = true}; each_overlaps = refl {a = true} }), (claims.plan_counts 0 1 1 (omega arith)).as_many)

-- ---- by the thesis's count the first task's response is 7, on time and not above 9
first_by_thesis : ByThesis 2 (tasks 8) 0 (task 8 0)
unfolding is_numbered is_printed tasks
first_by_thesis = claims.on_time_by_thesis 2 (tasks 8) refl 0 (task_of []) (omega arith) refl

thesis_figures : (verdict_of 10 7 ≡ OnTime) × (7 ≤ 9)
unfolding is_numbered is_printed is_thesis_row tasks
thesis_figures = (first_by_thesis.on_time, first_by_thesis.not_above)

-- ---- the thesis's example and the largest response, by what is printed; responses by the thesis's count
thesis_responses_lem : all is_thesis_row ((ascii "2\n10 10 2 3\n8 8 1 2\n" has (7 ∷ 7 ∷ [])) ∷ (ascii "2\n10 10 2 3\n8 7 1 2\n" has (7 ∷ 7 ∷ [])) ∷ (ascii "3\n5 5 1 1 1\n5 5 1 1 1\n" has (4 ∷ 4 ∷ [])) ∷ (ascii "1\n100 11 4\n1 1 1\n100 100 2\n" has (16 ∷ 1 ∷ 104 ∷ [])) ∷ []) ≡ true
thesis_responses_lem = claims.thesis_rows

thesis_printed : is_printed (ascii "3\n5 5 1 1 1\n5 5 1 1 1\n" prints ascii "task base response verdict\n1 3 5 late\n2 3 5 late\n") ≡ true
thesis_printed = claims.chapter_six

largest_printed : is_printed (ascii "8\n60000 60000 6000 6000 6000 6000 6000 6000 6000 6000\n" ++ concat (replicate 31 (ascii "1 1 6000 1 1 1 1 1 1 1\n")) prints ascii "task base response verdict\n1 48000 8928048000 late\n" ++ late_lines) ≡ true
unfolding largest_response
largest_printed = claims.largest_response

-- ---- what plan leaves: nothing changed by 18; base, response and verdict filled in when it is done, and period, deadline and costs as they were
out_of_range : List Task
out_of_range = task_of (10 ∷ 10 ∷ 2 ∷ 3 ∷ []) ∷ task_of (8 ∷ 9 ∷ 1 ∷ 2 ∷ []) ∷ []

abbrev response_at : ℕ → List Task → ℕ
response_at k l = (get_or l k (task_of [])).response

declined : Figure 0
unfolding is_numbered is_printed out_of_range after_plan
declined = ap (response_at 0) ((claims.plan_leaves 2 out_of_range).declined (eqb-false 18 0 refl))

done : Figure 9
unfolding is_numbered is_printed tasks after_plan
done = ap (response_at 0) ((claims.plan_leaves 2 (tasks 8)).done refl)

stays : Figure 10 × Figure 8 × Bytes (2 ∷ 3 ∷ replicate 6 0)
unfolding is_numbered is_printed tasks after_plan
stays =
    let s = (claims.plan_leaves 2 (tasks 8)).asked_stays in
    let none = asked (task_of []) in
    (ap (λ (l : List Asked). (get_or l 0 none).period) s, ap (λ (l : List Asked). (get_or l 1 none).deadline) s, ap (λ (l : List Asked). (get_or l 0 none).costs) s)

-- ---- at one station the second cost of 6,001, which is out of range, is not read
wide : List Task
wide = task_of (10 ∷ 10 ∷ 2 ∷ 6001 ∷ []) ∷ task_of (8 ∷ 8 ∷ 1 ∷ 2 ∷ []) ∷ []

not_read : Figure 0 × Figure 4
unfolding is_numbered is_printed wide
not_read = let r = claims.plan_reads_to_n 1 wide in (r.number, ap (response_at 0) r.figures)
