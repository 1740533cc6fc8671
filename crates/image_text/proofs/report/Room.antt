-- What a state in range whose ranks are bytes says takes at most 8,000 bytes, so that a buffer of 8,192 always has room. By the largest number of digits
-- of each figure, line by line.
use mathlib.Core.Bool.{Bool, true, false}
use mathlib.Core.Path.{◌≡◌, refl, ap}
use mathlib.Core.List.{List}
use Prim.Native.Nat.{ℕ, ◌+◌, ◌≤◌, ◌<◌}
use native.Mathlib.Nat.{le_refl}
use native.Mathlib.Omega.{arith}
use lib.ListN.{length, get_or, take, length-append}
use lib.Seq.{take_all}
use Rattle.model.specs.declared.Order.{Order}
use Rattle.model.specs.declared.Service.{Service}
use Rattle.model.specs.Limits.{max_stations}
use Rattle.model.specs.State.{State, idle}
use Rattle.model.specs.Soundness.{is_idle}
use Rattle.lists.proofs.Fills.{past}
use Rattle.text.specs.Decimal.{decimal}
use Rattle.text.proofs.Decimals.{length-decimal}
use Rattle.text.proofs.Rows.{rows_at_most}
use Rattle.image_laws.specs.InRange.{byte_limit, half_limit, word_limit, Below, Row, ServiceInRange, OrderInRange, InRange, ByteRanks}
use Rattle.image_laws.proofs.Rows.{get_d_in}
use Rattle.image_text.specs.Report.{line_feed, figure, spaced, service_words, station_line, order_line, station_lines, order_lines, head_lines, state_report}
use Rattle.image_text.proofs.report.Lengths.{number_row, station_row, order_row, words_idle, length_busy, length_station, length-ticks, length-figures, length-costs, length-order, length-head, length_state, spaced_rows, station_rows, order_rows}

byte_digits : (v : ℕ) → v < byte_limit → length (figure " " v) ≤ 4
byte_digits v h = omega (arith, length-decimal 2 v (omega arith))

half_digits : (v : ℕ) → v < half_limit → length (figure " " v) ≤ 6
half_digits v h = omega (arith, length-decimal 4 v (omega arith))

bytes_room : (n : ℕ) (vs : List ℕ) → n ≤ 8 → length vs ≡ max_stations → Below byte_limit vs → length (spaced (take n vs)) ≤ 32
bytes_room n vs h eight below =
    rw (spaced_rows n vs (omega arith))
    (omega (arith, rows_at_most (number_row vs) 4 n (λ i k. byte_digits (get_or vs i 0) (below i))))

halves_room : (n : ℕ) (vs : List ℕ) → n ≤ 8 → Row half_limit vs → length (spaced (take n vs)) ≤ 48
halves_room n vs h r =
    rw (spaced_rows n vs (omega (arith, r.eight)))
    (omega (arith, rows_at_most (number_row vs) 6 n (λ i k. half_digits (get_or vs i 0) (r.below i))))

service_room : (e : Service) → ServiceInRange e → (b : Bool) → is_idle e ≡ b → length (service_words e) ≤ 29
service_room e r true h = omega (arith, ap length (words_idle e h))
service_room e r false h = omega (arith, length_busy e h, length-decimal 9 e.ticket (omega arith), length-decimal 4 e.left (omega arith))

station_room : (k : ℕ) (e : Service) → k ≤ 8 → ServiceInRange e → length (station_line k e) ≤ 39
station_room k e h r = omega (arith, length_station k e, length-decimal 0 k (omega arith), service_room e r (is_idle e) refl)

order_room : (n : ℕ) → n ≤ 8 → (o : Order) → OrderInRange o → Below byte_limit o.ranks → length (order_line n o) ≤ 226
order_room n h o r ranks =
    omega (
      arith,
      length-order n o,
      length-figures o,
      length-ticks o.ticket o.accepted o.due,
      length-costs n o,
      length-decimal 9 o.ticket (omega arith),
      length-decimal 9 o.accepted (omega arith),
      length-decimal 9 o.due (omega arith),
      length-decimal 9 o.sum (omega arith),
      length-decimal 2 o.station (omega arith),
      bytes_room n o.ranks h r.ranks ranks,
      halves_room n o.costs h r.costs,
      halves_room n o.maxima h r.maxima,
    )

head_room : (n clock next : ℕ) → n ≤ 8 → clock < word_limit → next < word_limit → length (head_lines n clock next) ≤ 44
head_room n clock next h c t =
    omega (
      arith,
      length-head n clock next,
      length-append (decimal n) line_feed,
      length-append (decimal clock) line_feed,
      length-append (decimal next) line_feed,
      length-decimal 0 n (omega arith),
      length-decimal 9 clock (omega arith),
      length-decimal 9 next (omega arith),
    )

module _ (s : State) (r : InRange s) (h : s.n ≤ max_stations) where
  stations_room : length (station_lines (take s.n s.services)) ≤ 312
  stations_room =
      rw (station_rows s.n s.services (omega (arith, r.eight)))
      (omega (arith, rows_at_most (station_row s.services) 39 s.n row))
    where
      row : (i : ℕ) → i < s.n → length (station_row s.services i) ≤ 39
      row i k = station_room (i + 1) (get_or s.services i idle) (omega arith) (r.services _ (get_d_in s.services idle i (omega (arith, r.eight))))

  orders_room : ByteRanks s → length (order_lines s.n s.orders) ≤ 7232
  orders_room ranks =
      let all = take_all (length s.orders) s.orders (le_refl _) in
      rw (← all, order_rows s.n (length s.orders) s.orders (le_refl _))
      (omega (arith, rows_at_most (order_row s.n s.orders) 226 (length s.orders) row, r.live))
    where
      row : (i : ℕ) → i < length s.orders → length (order_row s.n s.orders i) ≤ 226
      row i k = let m = get_d_in s.orders past i k in order_room s.n h (get_or s.orders i past) (r.orders _ m) (ranks _ m)

-- 44 for the head, 39 for each of 8 stations and 226 for each of 32 orders make 7,588.
pub state_room : (s : State) → InRange s → ByteRanks s → s.n ≤ max_stations → length (state_report s) ≤ 8000
state_room s r ranks h =
    omega (
      arith,
      length_state s,
      head_room s.n s.clock s.next h r.clock r.next,
      stations_room s r h,
      orders_room s r h ranks,
    )
