-- A worked example: N = 2, an order of costs 2 and 3 that was accepted at tick 0 with due-in 20, one tick later. By computation.
use mathlib.Core.Path.{◌≡◌, refl}
use mathlib.Core.List.{[], ◌∷◌}
use Rattle.model.specs.State.{State, idle}
use Rattle.model.specs.Lists.{concat, numbered}
use Rattle.model.specs.Soundness.{is_idle}
use Rattle.text.specs.Ascii.{ascii}
use Rattle.text.specs.Decimal.{digits, decimal}
use Rattle.image_text.specs.Report.{spaced, service_words, station_line, order_ticks, order_figures, order_costs, order_line, head_lines, station_lines, order_lines, state_report, clause_line, report}

abbrev shown : State
shown =
    record {
      n = 2;
      clock = 1;
      next = 2;
      services = record { ticket = 1; left = 1 } ∷ idle ∷ [];
      orders =
          record {
            ticket = 1;
            accepted = 0;
            due = 20;
            sum = 3;
            station = 1;
            ranks = 0 ∷ 0 ∷ [];
            costs = 2 ∷ 3 ∷ [];
            maxima = 2 ∷ 3 ∷ [];
          } ∷ [];
    }

pub sound_printed : report 0 [] shown ≡ ascii "number 0\nstations 2\nclock 1\nnext 2\nstation 1 ticket 1 left 1\nstation 2 idle\norder 1 accepted 0 due 20 sum 3 station 1 ranks 0 0 costs 2 3 maxima 2 3\n"
unfolding report state_report head_lines station_lines order_lines station_line service_words order_line order_figures order_ticks order_costs spaced is_idle concat numbered decimal digits
sound_printed = refl

pub unsound_printed : report 4 (ascii "clock") shown ≡ ascii "number 4\nclause clock\n"
unfolding report clause_line decimal digits
unsound_printed = refl

pub declined_printed : report 2 [] shown ≡ ascii "number 2\n"
unfolding report decimal digits
declined_printed = refl
