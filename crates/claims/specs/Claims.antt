-- What a stranger may rely on, in one record. The contracts of the calls say that each does what `open_call`, `quote_call`, `offer_call`, `quote_format_call`,
-- `offer_format_call` or `advance_call` says, those of plan that it does what `plan_number`, `after_plan` and `plan_output` say, and those of the log's reader
-- that it does what `fed_all` and `printed` say; these are theorems about the same definitions. Each has a use in the
-- crate `uses`: a definite case from which everything that it says is taken, in figures.
use Rattle.std.specs.Prelude.{◌≡◌, true, List, ℕ}
use Rattle.model.specs.Lists.{all}
use Rattle.model.specs.Formats.{LongSidesHalve}
use Rattle.plan_model.specs.declared.Task.{Task}
use Rattle.plan_model.specs.Meaning.{Meaning, Leaves, NotRead}
use Rattle.plan_model.specs.Overlap.{EveryOverlap}
use Rattle.plan_model.specs.Thesis.{OnTimeByThesis}
use Rattle.plan_model.specs.Cases.{is_printed, chapter_six, is_thesis_row, thesis_rows, largest_response}
use Rattle.log_model.specs.Rerun.{DeclinedDisagrees}
use Rattle.log_model.specs.Rounding.{ThousandthsMean}
use Rattle.log_laws.specs.Meaning.{WrittenReruns, SameMeans, PrintsAsAsked, WhateverChunks, ReadsAsWhole}
use Rattle.schedule.specs.Precedence.{PrecedesInOrder}
use Rattle.call_laws.specs.OpenExact.{OpensFresh}
use Rattle.call_laws.specs.OfferExact.{Exact}
use Rattle.call_laws.specs.OfferKept.{OfferKeepsSound, QuoteGivesOffer, FormatQuoteGivesOffer}
use Rattle.call_laws.specs.DefaultDueIn.{ZeroStandsForDefault}
use Rattle.call_laws.specs.FormatExact.{FormatAsBlock}
use Rattle.call_laws.specs.AdvanceExact.{AdvanceNumbers}
use Rattle.call_laws.specs.AdvanceKept.{AdvanceKeepsSound}
use Rattle.claims.specs.Demand3.{Demand3}
use Rattle.claims.specs.ByHistory.{ByHistory}
use Rattle.claims.specs.Progress.{Progress}
use Rattle.claims.specs.Images.{OfEveryImage, AfterEveryList, TicksAsAsked, Timely, ServedInFull}
use Rattle.claims.specs.Declines.{Declines}
use Rattle.claims.specs.WorkedCases.{WorkedCases}

pub record Claims : Type 0 where
  -- "Demand 3 is over runs of the model as the run book has them, with company taken from the history of calls and not from stored sums."
  pub due_times : Demand3
  -- Every live order comes out if advance is called.
  pub progress : Progress
  -- Demand 2, "11 and 12 only when late": on any image, and over runs by the history alone.
  pub exact : Exact
  pub by_history : ByHistory
  -- "Quote gives what offer would give, with ticket 0, and changes nothing in the image."
  pub quote_gives_offer : QuoteGivesOffer
  -- Document 02, (i): "Offered or quoted, it gets the reply, and leaves the image, that the same order written as a block does"; quotes and offers by format.
  pub format_as_block : FormatAsBlock
  pub format_quote_gives_offer : FormatQuoteGivesOffer
  -- The rule of ISO 216, in the table of long sides.
  pub long_sides : LongSidesHalve
  -- Document 02, (iii): "Due-in 0 is to stand for 9,000 ticks. Quote, offer and format orders follow."
  pub default_due_in : ZeroStandsForDefault
  -- Document 02, (iv): which of the three is printed for a log, and which line is named; a log that is written from a list of calls; what `same` says of a log.
  pub rerun_prints : PrintsAsAsked
  pub written_logs_rerun : WrittenReruns
  pub same_means : SameMeans
  -- Document 02, (iv): "a `T` whose advance is declined disagrees"; "rounded to nearest, a half upward; 0 when no tick passed"
  pub declined_disagrees : DeclinedDisagrees
  pub thousandths_mean : ThousandthsMean
  -- Logs of any length: what has been fed determines the state, and what is printed of it is what is printed for the log.
  pub whatever_chunks : WhateverChunks
  pub reads_as_whole : ReadsAsWhole
  -- Document 02, (v): "Equal ranks should go by the earlier due tick, then by the smaller ticket." Who goes before whom at a station is a strict total order;
  -- `ticks` says who starts.
  pub goes_before : PrecedesInOrder
  -- "demand 2's starts": the course of each tick, when an order may start first, and the way of each order, of every image of bytes and after every list of calls.
  pub ticks : OfEveryImage TicksAsAsked
  pub ticks_over_runs : AfterEveryList TicksAsAsked
  pub timely : OfEveryImage Timely
  pub timely_over_runs : AfterEveryList Timely
  pub served : OfEveryImage ServedInFull
  pub served_over_runs : AfterEveryList ServedInFull
  -- "advance 1 to 4, then 13"
  pub advance_numbers : AdvanceNumbers
  -- Demand 1: what a decline leaves, by any of the calls.
  pub declines : Declines
  -- "open gives zeros and a fresh image (clock 0, next ticket 1)"
  pub opens_fresh : OpensFresh
  -- Demand 1, from any sound image and not only from those that runs reach: a done call leaves a sound one.
  pub offers_keep_sound : OfferKeepsSound
  pub advances_keep_sound : AdvanceKeepsSound
  -- Plan: what response and verdict of every task of a done plan mean, and a table with the largest response there is.
  pub plan_means : Meaning
  pub largest_response : is_printed largest_response ≡ true
  -- Document 02, (ii): "The planning test should count every release whose stay can overlap"
  pub plan_counts : EveryOverlap
  -- Which way that errs: who is on time is on time by the thesis's count too; what is printed for the thesis's own example, and responses by its count.
  pub on_time_by_thesis : OnTimeByThesis
  pub chapter_six : is_printed chapter_six ≡ true
  pub thesis_rows : all is_thesis_row thesis_rows ≡ true
  -- "a decline leaves the list alone"; "Costs beyond N are not read."
  pub plan_leaves : (n : ℕ) (tasks : List Task) → Leaves n tasks
  pub plan_reads_to_n : (n : ℕ) (tasks : List Task) → NotRead n tasks
  -- "The cases marked P form one proved table", plan's two among them.
  pub worked_cases : WorkedCases
