-- The rows of the counter, of plan and of logs hold where they are computed; here they are put into one table.
use mathlib.Core.Path.{◌≡◌, refl}
use mathlib.Core.Bool.{Bool, true}
use mathlib.Core.List.{List, [], ◌∷◌, ◌++◌, map}
use Prim.Native.Nat.{ℕ, suc}
use Rattle.model.specs.Table.{Row, Held, held, AllHold, EachFrom}
use Rattle.model.specs.Cases.{paper_cases}
use Rattle.model.specs.FormatCases.{format_cases}
use Rattle.model.specs.DefaultCases.{default_cases}
use Rattle.model.specs.TieCases.{tie_cases}
use Rattle.model.proofs.Cases.{paper_cases_hold}
use Rattle.model.proofs.FormatCases.{format_cases_hold}
use Rattle.model.proofs.DefaultCases.{default_cases_hold}
use Rattle.model.proofs.TieCases.{tie_cases_hold}
use Rattle.log_model.specs.Cases.{Rerunning, is_rerun, log_tables, tie_logs, Share, is_share, shares}
use Rattle.log_model.proofs.Cases.{logs_hold, tie_logs_hold, shares_hold}
use Rattle.plan_model.specs.Cases.{Printing, is_printed, paper_tables, inside_tables}
use Rattle.plan_model.proofs.Cases.{paper_tables_hold, inside_tables_hold}
use Rattle.claims.specs.WorkedCases.{Case, of_calls, of_plan, of_log, of_share, CaseHolds, EachHolds, paper_table, WorkedCases}

is_true : (k : ℕ) (b : Bool) → Held k b → b ≡ true
is_true k b (held j) = refl

-- A table of tests, by what makes a case of an entry.
module _ {A : Type 0} (test : A → Bool) (case : A → Case) (holds : (a : A) → test a ≡ true → CaseHolds (case a)) where
  each_passes : (k : ℕ) (entries : List A) → EachFrom test k entries → EachHolds (map case entries)
  each_passes k [] h = tt
  each_passes k (a ∷ entries) h = (holds a (is_true k (test a) h.0), each_passes (suc k) entries h.1)

each_holds : (cases : List (List Row)) → AllHold cases → EachHolds (map of_calls cases)
each_holds [] h = tt
each_holds (rows ∷ cases) h = (h.0, each_holds cases h.1)

append_holds : (a b : List Case) → EachHolds a → EachHolds b → EachHolds (a ++ b)
append_holds [] b p q = q
append_holds (case ∷ a) b p q = (p.0, append_holds a b p.1 q)

-- A table that holds: of calls, of plan, of logs, of their last column, and one after another.
abbrev Holding : Type 0
Holding = (table : List Case) × EachHolds table

abbrev calls : (cases : List (List Row)) → AllHold cases → Holding
calls cases h = (map of_calls cases, each_holds cases h)

abbrev plans : (tables : List Printing) → EachFrom is_printed 1 tables → Holding
plans tables h = (map of_plan tables, each_passes is_printed of_plan (λ t e. e) 1 tables h)

abbrev logs : (tables : List Rerunning) → EachFrom is_rerun 1 tables → Holding
logs tables h = (map of_log tables, each_passes is_rerun of_log (λ t e. e) 1 tables h)

abbrev columns : (rows : List Share) → EachFrom is_share 1 rows → Holding
columns rows h = (map of_share rows, each_passes is_share of_share (λ t e. e) 1 rows h)

infixl 20 ◌and◌
abbrev ◌and◌ : Holding → Holding → Holding
a and b = (a.0 ++ b.0, append_holds a.0 b.0 a.1 b.1)

pub worked_cases_hold : WorkedCases
unfolding paper_table
worked_cases_hold =
    (calls paper_cases paper_cases_hold
    and plans paper_tables paper_tables_hold
    and calls format_cases format_cases_hold
    and plans inside_tables inside_tables_hold
    and calls default_cases default_cases_hold
    and logs log_tables logs_hold
    and columns shares shares_hold
    and calls tie_cases tie_cases_hold
    and logs tie_logs tie_logs_hold).1
