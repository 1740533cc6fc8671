-- The response of a task: the sequence of R, where it ends, and the verdict.
use Rattle.std.specs.Prelude.{Bool, true, false, ◌||◌, List, [], ◌∷◌, map, ℕ, zero, suc, ◌+◌, ◌-◌, ◌*◌, eqb, leb}
use Rattle.model.specs.Lists.{rounded_up, total}
use Rattle.plan_model.specs.declared.Task.{Task}
use Rattle.plan_model.specs.declared.Verdict.{Verdict}
use Rattle.plan_model.specs.declared.Verdict.TheVariants.{OnTime, Late}
use Rattle.plan_model.specs.Base.{largest_cost}

-- Document 02, (ii): "The factor for task i becomes (R + deadline of i - 1) / period of i, rounded up." How many releases of a task with this deadline and
-- period count against R: all whose stay can overlap R ticks (specs/Overlap.antt). Document 000, section 4, has the reason, at its definition of the worst-case
-- set: each job is in it whose interval from arrival to deadline overlaps the one in which the job in question is inside; any other is out before that one
-- comes, or comes after it is out.
unfoldable pub releases : (R deadline period : ℕ) → ℕ
releases R deadline period = rounded_up (R + deadline - 1) period

-- The factor of task i "× largest cost of i"
unfoldable pub share : ℕ → ℕ → Task → ℕ
share n R i = releases R i.deadline i.period * largest_cost n i

-- "the other tasks": all but the one at place k, counted from 0.
unfoldable pub others : {A : Type 0} → ℕ → List A → List A
others k [] = []
others zero (x ∷ xs) = xs
others (suc k) (x ∷ xs) = x ∷ others k xs

-- "replace R by base + the sum, over the other tasks i, of" their shares
unfoldable pub next : ℕ → List Task → ℕ → ℕ → ℕ
next n rest base R = base + total (map (share n R) rest)

-- "at the first R not below the deadline"
abbrev pub past : ℕ → ℕ → Bool
past deadline R = leb deadline R

-- "The repetition ends at the first R that repeats and yields it, or at the first R not below the deadline."
unfoldable pub ends : (ℕ → ℕ) → ℕ → ℕ → Bool
ends step deadline R = past deadline R || eqb (step R) R

-- The R at which the sequence from R on ends, where the test says that it ends with R itself. The first number bounds the steps: R rises with each
-- (proofs/Sequence.antt), so that the deadline is always enough.
unfoldable pub settled : (ℕ → ℕ) → ℕ → ℕ → Bool → ℕ → ℕ
settled step deadline zero ended R = R
settled step deadline (suc k) true R = R
settled step deadline (suc k) false R = let S = step R in settled step deadline k (ends step deadline S) S

-- "Response: begin with the base": the base is the first R, and tested as any other.
unfoldable pub response_from : (ℕ → ℕ) → ℕ → ℕ → ℕ
response_from step deadline base = settled step deadline deadline (ends step deadline base) base

-- "On time means R repeats below the deadline (document 004, chapter 5: strictly)." Where R ended the sequence and is below, it repeats.
abbrev pub verdict_where : Bool → Verdict
verdict_where true = Late
verdict_where false = OnTime

unfoldable pub verdict_of : ℕ → ℕ → Verdict
verdict_of deadline R = verdict_where (past deadline R)
