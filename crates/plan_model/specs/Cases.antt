-- Worked tables: what the plan program prints for an input, whole; and which number plan returns for a list of records.
use Rattle.std.specs.Prelude.{Bool, List, [], ◌∷◌, ◌++◌, ℕ, replicate, eqb}
use Rattle.model.specs.Lists.{rounded_up, total, largest, larger, concat, all, same, numbered, upward}
use Rattle.model.specs.Questions.{first_no}
use Rattle.model.specs.DelayBound.{maxima_of}
use Rattle.text.specs.Ascii.{ascii}
use Rattle.text.specs.Decimal.{digits, decimal}
use Rattle.plan_model.specs.declared.Task.{Task}
use Rattle.plan_model.specs.Base.{largest_cost, stage_maxima, base}
use Rattle.plan_model.specs.Response.{releases, share, others, next, ends, settled, response_from, verdict_of}
use Rattle.plan_model.specs.Plan.{in_range, plan_questions, plan_number, response, with_figures, figured, planned}
use Rattle.plan_model.specs.Thesis.{thesis_share, thesis_next, thesis_response, thesis_responses}
use Rattle.text.specs.Parts.{parts, last_of, lines_of, lines}
use Rattle.text.specs.Number.{value_of}
use Rattle.plan_model.specs.Number.{is_number}
use Rattle.plan_model.specs.Input.{is_stations, stations_of, is_numbers, is_task_lines, task_of, task_at, tasks_of, form_questions, input_questions, input_number}
use Rattle.plan_model.specs.Output.{field, task_line, task_lines, table, refusal, plan_output}

-- For this input this is printed, and nothing else.
infix 4 ◌prints◌
pub data Printing : Type 0 where
  ◌prints◌ : List ℕ → List ℕ → Printing

-- The long line names all that the program's output is computed with, so that a proof unfolds `is_printed` alone.
unfoldable pub is_printed : Printing → Bool
unfolding total largest larger concat all same numbered upward first_no maxima_of digits decimal largest_cost stage_maxima base rounded_up releases share others next ends settled response_from verdict_of in_range response with_figures figured planned parts last_of is_number value_of lines_of lines is_stations stations_of is_numbers is_task_lines task_of task_at tasks_of form_questions input_questions input_number field task_line task_lines table refusal plan_output
is_printed (input prints output) = same (plan_output input) output

-- The table of document 01, "For `2`, `10 10 2 3`, `8 8 1 2` it prints, whole". Document 02, (ii): "Document 01's first table then has responses 9 and 10, the
-- second task late".
abbrev pub first_table : Printing
first_table =
    ascii "2\n10 10 2 3\n8 8 1 2\n"
    prints ascii "task base response verdict\n1 5 9 on-time\n2 4 10 late\n"

-- Document 02, (ii): "with deadline 7 for task 2 both figures are the same"
abbrev pub second_table : Printing
second_table =
    ascii "2\n10 10 2 3\n8 7 1 2\n"
    prints ascii "task base response verdict\n1 5 9 on-time\n2 4 10 late\n"

abbrev pub paper_tables : List Printing
paper_tables = first_table ∷ second_table ∷ []

-- Document 004, chapter 6: two tasks of period and deadline 5 on three stations, each cost 1. By the thesis's count their response is 4, on time; holistic
-- analysis says 6, late. By (ii) R comes to 5, which is not below the deadline.
abbrev pub chapter_six : Printing
chapter_six =
    ascii "3\n5 5 1 1 1\n5 5 1 1 1\n"
    prints ascii "task base response verdict\n1 3 5 late\n2 3 5 late\n"

-- Of late tasks neither count always has the larger figure: the sequence that rises faster may end earlier. The first task ends at 12 here, and at 16 by the
-- thesis's count.
abbrev pub ends_earlier : Printing
ends_earlier =
    ascii "1\n100 11 4\n1 1 1\n100 100 2\n"
    prints ascii "task base response verdict\n1 4 12 late\n2 1 1 late\n3 2 102 late\n"

-- R and deadline at their largest, on time: in the first task's line 59,999 + 60,000 - 1 ticks hold two releases of the second.
abbrev pub most_ticks : Printing
most_ticks =
    ascii "8\n60000 60000 5999 5999 5999 5999 5999 5999 5999 5999\n60000 60000 6000 6000 6000 6000 6000 6000 6000 1\n"
    prints ascii "task base response verdict\n1 47999 59999 on-time\n2 48000 59998 on-time\n"

-- Right from nearly right. In the first two tables the first task's R comes to 6. Releases of the second task whose stay can overlap then lie within
-- 6 + 5 - 1 ticks, which is its period: one counts. With deadline 6 they lie within 11 ticks, and two count. With the period in place of the deadline, or
-- without the 1 taken off, the first of them would have 8 as well. The others are those above.
abbrev pub inside_tables : List Printing
inside_tables =
    (ascii "1\n100 20 4\n10 5 2\n" prints ascii "task base response verdict\n1 4 6 on-time\n2 2 6 late\n")
    ∷ (ascii "1\n100 20 4\n10 6 2\n" prints ascii "task base response verdict\n1 4 8 on-time\n2 2 6 late\n")
    ∷ ends_earlier
    ∷ most_ticks
    ∷ []

-- For this input these are the responses by the thesis's count, task by task.
infix 4 ◌has◌
pub data ThesisRow : Type 0 where
  ◌has◌ : List ℕ → List ℕ → ThesisRow

unfoldable pub is_thesis_row : ThesisRow → Bool
unfolding total largest larger same numbered maxima_of largest_cost stage_maxima base rounded_up thesis_share others thesis_next ends settled response_from thesis_response thesis_responses parts value_of lines_of lines stations_of task_of task_at tasks_of
is_thesis_row (input has responses) = same (thesis_responses (stations_of input) (tasks_of input)) responses

-- Document 01's tables, the thesis's own example, and the table where its figure for a late task is the larger.
abbrev pub thesis_rows : List ThesisRow
thesis_rows =
    (ascii "2\n10 10 2 3\n8 8 1 2\n" has (7 ∷ 7 ∷ []))
    ∷ (ascii "2\n10 10 2 3\n8 7 1 2\n" has (7 ∷ 7 ∷ []))
    ∷ (ascii "3\n5 5 1 1 1\n5 5 1 1 1\n" has (4 ∷ 4 ∷ []))
    ∷ (ascii "1\n100 11 4\n1 1 1\n100 100 2\n" has (16 ∷ 1 ∷ 104 ∷ []))
    ∷ []

-- The largest response there is: of a task whose base, 48,000, is below its deadline, beside 31 tasks of period 1 and cost 6,000. Those end with their bases.
unfoldable pub late_lines : List ℕ
unfolding concat upward digits decimal
late_lines = concat (upward 2 31 (λ k. decimal k ++ ascii " 48000 48000 late\n"))

unfoldable pub largest_response : Printing
unfolding concat late_lines
largest_response =
    ascii "8\n60000 60000 6000 6000 6000 6000 6000 6000 6000 6000\n" ++ concat (replicate 31 (ascii "1 1 6000 1 1 1 1 1 1 1\n"))
    prints ascii "task base response verdict\n1 48000 8928048000 late\n" ++ late_lines

-- Plan over task records: the number that it returns for these records, at so many stations.
pub record Numbering : Type 0 where
  pub stations : ℕ
  pub tasks : List Task
  pub number : ℕ

unfoldable pub is_numbered : Numbering → Bool
unfolding all first_no in_range plan_questions plan_number task_of
is_numbered c = eqb (plan_number c.stations c.tasks) c.number

-- A record in range at one station and at two, one in range at one station alone, and one that is out of range.
abbrev good : Task
good = task_of (10 ∷ 10 ∷ 2 ∷ 3 ∷ [])

abbrev narrow : Task
narrow = task_of (10 ∷ 10 ∷ 2 ∷ [])

abbrev bad : Task
bad = task_of (10 ∷ 11 ∷ 2 ∷ 3 ∷ [])

-- "It declines N by 14, a count outside 1 to 32 by 17, and figures out of range by 18, in that order": where two or three of them fit, the first. "Costs
-- beyond N are not read."
abbrev pub plan_numbers : List Numbering
plan_numbers =
    record { stations = 2; tasks = replicate 32 good; number = 0 }
    ∷ record { stations = 0; tasks = good ∷ []; number = 14 }
    ∷ record { stations = 9; tasks = replicate 33 bad; number = 14 }
    ∷ record { stations = 2; tasks = []; number = 17 }
    ∷ record { stations = 2; tasks = replicate 33 bad; number = 17 }
    ∷ record { stations = 2; tasks = good ∷ bad ∷ []; number = 18 }
    ∷ record { stations = 2; tasks = narrow ∷ []; number = 18 }
    ∷ record { stations = 1; tasks = narrow ∷ []; number = 0 }
    ∷ []

-- What document 01 leaves to be read, and the readings of docs/DECISIONS.md: the base is tested; an input without a line feed has no first line; a number of
-- ten digits is no number; a lone 0 is one, and out of range; 17 is asked of the whole input before 18 of any task.
abbrev pub readings : List Printing
readings =
    (ascii "1\n10 2 3\n10 10 4\n" prints ascii "task base response verdict\n1 3 3 late\n2 4 7 on-time\n")
    ∷ (ascii "" prints ascii "refused 16\n")
    ∷ (ascii "2" prints ascii "refused 16\n")
    ∷ (ascii "02\n10 10 2 3\n" prints ascii "refused 16\n")
    ∷ (ascii "9\n10 10 2 3\n" prints ascii "refused 16\n")
    ∷ (ascii "2\n" prints ascii "refused 17\n")
    ∷ (ascii "2\n10 10 2 3" prints ascii "refused 17\n")
    ∷ (ascii "2\n10 10 2 3\n8 8 1 2" prints ascii "refused 17\n")
    ∷ (ascii "2\n10 10 2 3\n\n" prints ascii "refused 17\n")
    ∷ (ascii "2\n10 10 2  3\n" prints ascii "refused 17\n")
    ∷ (ascii "2\n1000000000 10 2 3\n" prints ascii "refused 17\n")
    ∷ (ascii "2\n0 10 2 3\n10 10 2\n" prints ascii "refused 17\n")
    ∷ (ascii "2\n10 10 2 0\n" prints ascii "refused 18\n")
    ∷ (ascii "2\n10 11 2 3\n" prints ascii "refused 18\n")
    ∷ (ascii "2\n60001 10 2 3\n" prints ascii "refused 18\n")
    ∷ (ascii "2\n10 10 2 6001\n" prints ascii "refused 18\n")
    ∷ []
