-- What the figures of a done plan mean, beside the definition by steps.
use Rattle.std.specs.Prelude.{◌≡◌, true, false, ◌≢◌, List, map, ℕ, zero, suc, ◌≤◌, ◌<◌, length, get_or, take}
use Rattle.plan_model.specs.declared.Task.{Task}
use Rattle.plan_model.specs.declared.Verdict.{Verdict}
use Rattle.plan_model.specs.declared.Verdict.TheVariants.{OnTime, Late}
use Rattle.plan_model.specs.Response.{others, next, ends}
use Rattle.plan_model.specs.Plan.{plan_number, planned, after_plan}

-- The sequence of R: the base is the first, and each R is replaced in turn.
unfoldable pub sequence : (ℕ → ℕ) → ℕ → ℕ → ℕ
sequence step base zero = base
sequence step base (suc k) = step (sequence step base k)

-- R is the first of the sequence that ends it.
pub record FirstEnd (step : ℕ → ℕ) (deadline base R : ℕ) : Type 0 where
  pub place : ℕ
  pub is : R ≡ sequence step base place
  pub ended : ends step deadline R ≡ true
  pub none_before : (j : ℕ) → j < place → ends step deadline (sequence step base j) ≡ false

-- R is the least fixed point at or above the base, and lies below the deadline.
pub record LeastFixed (step : ℕ → ℕ) (deadline base R : ℕ) : Type 0 where
  pub above : base ≤ R
  pub below : R < deadline
  pub fixed : step R ≡ R
  pub least : (x : ℕ) → base ≤ x → step x ≡ x → R ≤ x

-- R is the first of the sequence not below the deadline.
pub record FirstPast (step : ℕ → ℕ) (deadline base R : ℕ) : Type 0 where
  pub place : ℕ
  pub is : R ≡ sequence step base place
  pub past : deadline ≤ R
  pub none_before : (j : ℕ) → j < place → sequence step base j < deadline

-- The largest response there is: a base of 48,000 and 31 tasks of period 1 and cost 6,000 give it (proofs/Cases.antt).
abbrev pub max_response : ℕ
max_response = 8928048000

-- The largest base: a cost of 6,000 at each of eight stations.
abbrev pub max_base : ℕ
max_base = 48000

-- Response and verdict of a task, by its base and what replaces R.
pub record Meant (step : ℕ → ℕ) (deadline base R : ℕ) (verdict : Verdict) : Type 0 where
  pub never_falls : (j : ℕ) → sequence step base j ≤ sequence step base (suc j)
  pub first_end : FirstEnd step deadline base R
  pub on_time : verdict ≡ OnTime → LeastFixed step deadline base R
  pub late : verdict ≡ Late → FirstPast step deadline base R
  pub base_most : base ≤ max_base
  pub response_most : R ≤ max_response

-- Of every task of a done plan.
abbrev pub Meaning : Type 0
Meaning =
    (n : ℕ) (tasks : List Task) → plan_number n tasks ≡ 0
    → (k : ℕ) (none : Task) → k < length tasks
    → let t = get_or (planned n tasks) k none in
    Meant (next n (others k tasks) t.base) t.deadline t.base t.response t.verdict

-- What is asked of a task, which plan does not change.
pub record Asked : Type 0 where
  pub period : ℕ
  pub deadline : ℕ
  pub costs : List ℕ

abbrev pub asked : Task → Asked
asked t = record { period = t.period; deadline = t.deadline; costs = t.costs }

-- "a decline leaves the list alone", and a done plan leaves of every record what is asked.
pub record Leaves (n : ℕ) (tasks : List Task) : Type 0 where
  pub declined : plan_number n tasks ≢ 0 → after_plan n tasks ≡ tasks
  pub done : plan_number n tasks ≡ 0 → after_plan n tasks ≡ planned n tasks
  pub asked_stays : map asked (after_plan n tasks) ≡ map asked tasks

-- "Costs beyond N are not read": plan gives the same for the table without them.
abbrev pub up_to : ℕ → Task → Task
up_to n t = record { period = t.period; deadline = t.deadline; costs = take n t.costs; base = t.base; response = t.response; verdict = t.verdict }

pub record NotRead (n : ℕ) (tasks : List Task) : Type 0 where
  pub number : plan_number n (map (up_to n) tasks) ≡ plan_number n tasks
  pub figures : planned n (map (up_to n) tasks) ≡ map (up_to n) (planned n tasks)
