-- "The cases marked P form one proved table": document 01's counter examples, in its order; then those of document 02's requests that have landed.
use Rattle.std.specs.Prelude.{◌≡◌, true, List, [], ◌∷◌, ◌++◌, map}
use Rattle.model.specs.Table.{Row, Hold}
use Rattle.model.specs.Cases.{paper_cases}
use Rattle.model.specs.FormatCases.{format_cases}
use Rattle.model.specs.DefaultCases.{default_cases}
use Rattle.model.specs.TieCases.{tie_cases}
use Rattle.log_model.specs.Cases.{Rerunning, is_rerun, log_tables, tie_logs, Share, is_share, shares}
use Rattle.plan_model.specs.Cases.{Printing, is_printed, paper_tables, inside_tables}

pub data Case : Type 0 where
  -- Calls from a fresh cabinet on, row by row.
  of_calls : List Row → Case
  -- What the plan program prints for an input, whole.
  of_plan : Printing → Case
  -- What the rerun prints for a log, whole.
  of_log : Rerunning → Case
  -- So many busy ticks of so many, in thousandths.
  of_share : Share → Case

abbrev pub CaseHolds : Case → Type 0
CaseHolds (of_calls rows) = Hold rows
CaseHolds (of_plan printing) = is_printed printing ≡ true
CaseHolds (of_log rerunning) = is_rerun rerunning ≡ true
CaseHolds (of_share share) = is_share share ≡ true

abbrev pub EachHolds : List Case → Type 0
EachHolds [] = Unit {0}
EachHolds (case ∷ later) = CaseHolds case × EachHolds later

unfoldable pub paper_table : List Case
paper_table =
    map of_calls paper_cases ++ map of_plan paper_tables ++ map of_calls format_cases ++ map of_plan inside_tables ++ map of_calls default_cases ++ map of_log log_tables
    ++ map of_share shares ++ map of_calls tie_cases ++ map of_log tie_logs

abbrev pub WorkedCases : Type 0
WorkedCases = EachHolds paper_table
