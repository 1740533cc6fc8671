-- All claims, each from where it is proved.
use Rattle.model.proofs.FormatCases.{long_sides_halve}
use Rattle.plan_model.proofs.Meaning.{meaning}
use Rattle.plan_model.proofs.Overlap.{every_overlap}
use Rattle.plan_model.proofs.Thesis.{on_time_by_thesis}
use Rattle.plan_model.proofs.Cases.{chapter_six_holds, thesis_rows_hold, largest_response_holds}
use Rattle.plan_model.proofs.Leaves.{leaves, not_read}
use Rattle.schedule.proofs.Precedence.{precedes_in_order}
use Rattle.call_laws.proofs.opens.Exact.{opens_fresh}
use Rattle.call_laws.proofs.offers.Exact.{exact}
use Rattle.call_laws.proofs.offers.Kept.{offer_keeps_sound, quote_gives_offer, format_quote_gives_offer}
use Rattle.call_laws.proofs.offers.DefaultDueIn.{zero_stands_for_default}
use Rattle.call_laws.proofs.formats.Exact.{format_as_block}
use Rattle.call_laws.proofs.advances.Exact.{advance_numbers}
use Rattle.call_laws.proofs.advances.Kept.{advance_keeps_sound}
use Rattle.log_model.proofs.Rounding.{thousandths_mean}
use Rattle.log_model.proofs.Agreement.{declined_disagrees}
use Rattle.log_laws.proofs.Verdicts.{prints_as_asked}
use Rattle.log_laws.proofs.Written.{written_reruns}
use Rattle.log_laws.proofs.Same.{same_means}
use Rattle.log_laws.proofs.Feeding.{whatever_chunks}
use Rattle.log_laws.proofs.Whole.{reads_as_whole}
use Rattle.claims.specs.Images.{TicksAsAsked, Timely, ServedInFull}
use Rattle.claims.specs.Claims.{Claims}
use Rattle.claims.proofs.Demand3.{demand_3}
use Rattle.claims.proofs.ByHistory.{by_history}
use Rattle.claims.proofs.Progress.{progress}
use Rattle.claims.proofs.Images.{ticks_of_lem, timely_of, served_of, after_every_list, ticks, timely, served}
use Rattle.claims.proofs.Declines.{declines}
use Rattle.claims.proofs.WorkedCases.{worked_cases_hold}

pub claims : Claims
claims =
    record {
      due_times = demand_3;
      progress = progress;
      exact = exact;
      by_history = by_history;
      quote_gives_offer = quote_gives_offer;
      format_as_block = format_as_block;
      format_quote_gives_offer = format_quote_gives_offer;
      long_sides = long_sides_halve;
      default_due_in = zero_stands_for_default;
      rerun_prints = prints_as_asked;
      written_logs_rerun = written_reruns;
      same_means = same_means;
      declined_disagrees = declined_disagrees;
      thousandths_mean = thousandths_mean;
      whatever_chunks = whatever_chunks;
      reads_as_whole = reads_as_whole;
      goes_before = precedes_in_order;
      ticks = ticks;
      ticks_over_runs = after_every_list TicksAsAsked ticks_of_lem;
      timely = timely;
      timely_over_runs = after_every_list Timely timely_of;
      served = served;
      served_over_runs = after_every_list ServedInFull served_of;
      advance_numbers = advance_numbers;
      declines = declines;
      opens_fresh = opens_fresh;
      offers_keep_sound = offer_keeps_sound;
      advances_keep_sound = advance_keeps_sound;
      plan_means = meaning;
      largest_response = largest_response_holds;
      plan_counts = every_overlap;
      on_time_by_thesis = on_time_by_thesis;
      chapter_six = chapter_six_holds;
      thesis_rows = thesis_rows_hold;
      plan_leaves = leaves;
      plan_reads_to_n = not_read;
      worked_cases = worked_cases_hold;
    }
