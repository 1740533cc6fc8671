-- The length of each text by the lengths of its parts, and lines as rows that are given by their places. By taking `++` apart.
use mathlib.Core.Bool.{true, false}
use mathlib.Core.Path.{◌≡◌, ap}
use mathlib.Core.List.{List, ◌++◌}
use Prim.Native.Nat.{ℕ, ◌+◌, ◌≤◌}
use native.Mathlib.Omega.{arith}
use lib.ListN.{length, get_or, take, length-append}
use Rattle.model.specs.declared.Order.{Order}
use Rattle.model.specs.declared.Service.{Service}
use Rattle.model.specs.Lists.{concat, upward}
use Rattle.model.specs.State.{State, idle}
use Rattle.model.specs.Soundness.{is_idle}
use Rattle.lists.proofs.Fills.{past}
use Rattle.text.specs.Ascii.{ascii}
use Rattle.text.specs.Decimal.{decimal}
use Rattle.text.proofs.Rows.{map_rows, numbered-rows}
use Rattle.image_text.specs.Report.{line_feed, figure, spaced, service_words, station_line, order_ticks, order_figures, order_costs, order_line, head_lines, station_lines, order_lines, state_report, clause_line}

pub words_idle : (e : Service) → is_idle e ≡ true → service_words e ≡ ascii " idle"
unfolding service_words
words_idle e h = rw h

pub words_busy : (e : Service) → is_idle e ≡ false → service_words e ≡ figure " ticket " e.ticket ++ figure " left " e.left
unfolding service_words
words_busy e h = rw h

pub length_busy : (e : Service) → is_idle e ≡ false → length (service_words e) ≡ 8 + length (decimal e.ticket) + (6 + length (decimal e.left))
length_busy e h = rw (words_busy e h) (simp length-append)

pub length_station : (k : ℕ) (e : Service) → length (station_line k e) ≡ 8 + length (decimal k) + length (service_words e) + 1
unfolding station_line
length_station k e = simp length-append

pub length-ticks : (ticket accepted due : ℕ) → length (order_ticks ticket accepted due) ≡ 6 + length (decimal ticket) + (10 + length (decimal accepted)) + (5 + length (decimal due))
unfolding order_ticks
length-ticks ticket accepted due = simp length-append

pub length-figures : (o : Order) → length (order_figures o) ≡ length (order_ticks o.ticket o.accepted o.due) + (5 + length (decimal o.sum)) + (9 + length (decimal o.station))
unfolding order_figures
length-figures o = simp length-append

pub length-costs : (n : ℕ) (o : Order) → length (order_costs n o) ≡ 6 + length (spaced (take n o.costs)) + (7 + length (spaced (take n o.maxima)))
unfolding order_costs
length-costs n o = simp length-append

pub length-order : (n : ℕ) (o : Order) → length (order_line n o) ≡ length (order_figures o) + (6 + length (spaced (take n o.ranks))) + length (order_costs n o) + 1
unfolding order_line
length-order n o = simp length-append

pub length-head : (n clock next : ℕ) → length (head_lines n clock next) ≡ 9 + length (decimal n ++ line_feed) + (6 + length (decimal clock ++ line_feed)) + (5 + length (decimal next ++ line_feed))
unfolding head_lines
length-head n clock next = simp length-append (omega arith)

pub length_state : (s : State) → length (state_report s) ≡ length (head_lines s.n s.clock s.next) + length (station_lines (take s.n s.services)) + length (order_lines s.n s.orders)
unfolding state_report
length_state s = simp length-append

pub length_clause : (name : List ℕ) → length (clause_line name) ≡ 7 + length name + 1
unfolding clause_line
length_clause name = simp length-append

abbrev pub number_row : List ℕ → ℕ → List ℕ
number_row vs i = figure " " (get_or vs i 0)

abbrev pub station_row : List Service → ℕ → List ℕ
station_row services i = station_line (i + 1) (get_or services i idle)

abbrev pub order_row : ℕ → List Order → ℕ → List ℕ
order_row n orders i = order_line n (get_or orders i past)

pub spaced_rows : (n : ℕ) (vs : List ℕ) → n ≤ length vs → spaced (take n vs) ≡ concat (upward 0 n (number_row vs))
unfolding spaced
spaced_rows n vs h = ap concat (map_rows 0 (figure " ") n vs h)

pub station_rows : (n : ℕ) (services : List Service) → n ≤ length services → station_lines (take n services) ≡ concat (upward 0 n (station_row services))
unfolding station_lines
station_rows n services h = ap concat (numbered-rows idle station_line n services h)

pub order_rows : (n live : ℕ) (orders : List Order) → live ≤ length orders → order_lines n (take live orders) ≡ concat (upward 0 live (order_row n orders))
unfolding order_lines
order_rows n live orders h = ap concat (map_rows past (order_line n) live orders h)
