-- A station entry and a record: read as written, and written as read.
use mathlib.Core.Path.{◌≡◌, refl, sym, ap, ◌∙◌}
use mathlib.Core.List.{List, [], ◌∷◌, ◌++◌, map}
use Prim.Native.Nat.{ℕ, ◌+◌, ◌<◌}
use native.Mathlib.Omega.{arith}
use lib.ListN.{length, replicate}
use Rattle.model.specs.declared.Order.{Order}
use Rattle.model.specs.declared.Service.{Service}
use Rattle.model.specs.Limits.{max_stations}
use Rattle.model.specs.Lists.{part, concat, upward}
use Rattle.model.specs.Bytes.{byte, half, word, one_byte, two_bytes, four_bytes, eight_bytes, eight_halves}
use Rattle.model.specs.Layout.{service_size, served_at, left_at, service_zero_at, record_size, ticket_at, accepted_at, due_at, sum_at, station_at, station_zero_at, ranks_at, costs_at, maxima_at, record_zero_at}
use Rattle.model.specs.Image.{service_of, service_bytes, order_of, order_bytes}
use Rattle.lists.proofs.Fills.{upward_list}
use Rattle.image_laws.specs.InRange.{byte_limit, half_limit, word_limit, Below, Row, ServiceInRange, OrderInRange}
use Rattle.image_laws.proofs.Rows.{below_listed, below_append, below_rows}
use Rattle.image_laws.proofs.Numbers.{byte_of_one, half_of_two, word_of_four, half_low, half_high, word_first, word_second, word_third, word_fourth}

-- A list of eight by its entries.
pub eight_is : (l : List ℕ) → length l ≡ max_stations → eight_bytes l 0 ≡ l
unfolding eight_bytes upward
eight_is l h = upward_list 0 l max_stations h

pub halves_read : (l : List ℕ) → Row half_limit l → eight_halves (concat (map two_bytes (eight_bytes l 0))) 0 ≡ l
unfolding eight_halves concat eight_bytes
halves_read l f =
    rw (
      half_of_two (byte l 0) (f.below 0),
      half_of_two (byte l 1) (f.below 1),
      half_of_two (byte l 2) (f.below 2),
      half_of_two (byte l 3) (f.below 3),
      half_of_two (byte l 4) (f.below 4),
      half_of_two (byte l 5) (f.below 5),
      half_of_two (byte l 6) (f.below 6),
      half_of_two (byte l 7) (f.below 7),
    ) (eight_is l f.eight)

pub service_read : (e : Service) → ServiceInRange e → service_of (service_bytes e) ≡ e
unfolding service_of service_bytes
service_read e f = rw (word_of_four e.ticket f.ticket, half_of_two e.left f.left)

pub service_length : (e : Service) → length (service_bytes e) ≡ service_size
unfolding service_bytes
service_length e = refl

pub service_written : (p : List ℕ) → length p ≡ service_size → Below byte_limit p → ((i : ℕ) → i < 2 → byte p (service_zero_at + i) ≡ 0) → service_bytes (service_of p) ≡ p
unfolding service_of service_bytes upward
service_written p h b z =
    simp (half_low p b, half_high p b, word_first p b, word_second p b, word_third p b, word_fourth p b)
    (rw (z 0 (omega arith), z 1 (omega arith)) at (upward_list 0 p service_size h))

-- A record with its rows written out by their entries.
abbrev spelled : Order → Order
spelled o =
    record {
      ticket = o.ticket;
      accepted = o.accepted;
      due = o.due;
      sum = o.sum;
      station = o.station;
      ranks = eight_bytes o.ranks 0;
      costs = eight_bytes o.costs 0;
      maxima = eight_bytes o.maxima 0;
    }

module _ (o : Order) (f : OrderInRange o) where
  spelled_is : spelled o ≡ o
  spelled_is = rw (eight_is o.ranks f.ranks, eight_is o.costs f.costs.eight, eight_is o.maxima f.maxima.eight)

  spelled_read : order_of (order_bytes (spelled o)) ≡ o
  unfolding order_of order_bytes concat eight_bytes eight_halves
  spelled_read = λ i.
      record {
        ticket = word_of_four o.ticket f.ticket i;
        accepted = word_of_four o.accepted f.accepted i;
        due = word_of_four o.due f.due i;
        sum = word_of_four o.sum f.sum i;
        station = byte_of_one o.station f.station i;
        ranks = eight_is o.ranks f.ranks i;
        costs = halves_read o.costs f.costs i;
        maxima = halves_read o.maxima f.maxima i;
      }

  pub order_read : order_of (order_bytes o) ≡ o
  order_read = ap (λ (x : Order). order_of (order_bytes x)) (sym spelled_is) ∙ spelled_read

  pub order_length : length (order_bytes o) ≡ record_size
  unfolding order_bytes concat eight_bytes
  order_length = ap (λ (x : Order). length (order_bytes x)) (sym spelled_is)

  -- Its zero bytes, after the station and at the end.
  pub station_zeros : part (order_bytes o) station_zero_at 3 ≡ replicate 3 0
  unfolding order_bytes concat eight_bytes
  station_zeros = ap (λ (x : Order). part (order_bytes x) station_zero_at 3) (sym spelled_is)

  pub end_zeros : part (order_bytes o) record_zero_at 4 ≡ replicate 4 0
  unfolding order_bytes concat eight_bytes
  end_zeros = ap (λ (x : Order). part (order_bytes x) record_zero_at 4) (sym spelled_is)

pub order_written : (p : List ℕ) → length p ≡ record_size → Below byte_limit p → ((i : ℕ) → i < 3 → byte p (station_zero_at + i) ≡ 0) → ((i : ℕ) → i < 4 → byte p (record_zero_at + i) ≡ 0) → order_bytes (order_of p) ≡ p
unfolding order_of order_bytes concat eight_bytes eight_halves upward
order_written p h b y z =
    simp (half_low p b, half_high p b, word_first p b, word_second p b, word_third p b, word_fourth p b, byte_of_one (byte p station_at) (b station_at))
    (rw (y 0 (omega arith), y 1 (omega arith), y 2 (omega arith), z 0 (omega arith), z 1 (omega arith), z 2 (omega arith), z 3 (omega arith)) at (upward_list 0 p record_size h))

-- What is read of bytes is in range.
module _ (p : List ℕ) (b : Below byte_limit p) where
  half_below : (i : ℕ) → half p i < half_limit
  half_below i = omega (arith, b i, b (i + 1))

  pub word_below : (i : ℕ) → word p i < word_limit
  word_below i = omega (arith, half_below i, half_below (i + 2))

  pub service_in_range : ServiceInRange (service_of p)
  unfolding service_of
  service_in_range = record { ticket = word_below served_at; left = half_below left_at }

  pub bytes_below : (i : ℕ) → Below byte_limit (eight_bytes p i)
  unfolding eight_bytes
  bytes_below i =
      below_listed (omega arith) (eight_bytes p i) (omega (arith, b i, b (i + 1), b (i + 2), b (i + 3), b (i + 4), b (i + 5), b (i + 6), b (i + 7)))

  pub ranks_below : Below byte_limit (order_of p).ranks
  unfolding order_of
  ranks_below = bytes_below ranks_at

  halves_row : (i : ℕ) → Row half_limit (eight_halves p i)
  unfolding eight_halves
  halves_row i =
      record {
        eight = refl;
        below =
            below_listed (omega arith) (eight_halves p i)
            (half_below i, (half_below (i + 2), (half_below (i + 4), (half_below (i + 6), (half_below (i + 8), (half_below (i + 10), (half_below (i + 12), (half_below (i + 14), tt))))))));
      }

  pub order_in_range : OrderInRange (order_of p)
  unfolding order_of eight_bytes
  order_in_range =
      record {
        ticket = word_below ticket_at;
        accepted = word_below accepted_at;
        due = word_below due_at;
        sum = word_below sum_at;
        station = b station_at;
        ranks = refl;
        costs = halves_row costs_at;
        maxima = halves_row maxima_at;
      }

-- What is written is bytes.
pub service_below : (e : Service) → Below byte_limit (service_bytes e)
unfolding service_bytes
service_below e = below_listed (omega arith) (service_bytes e) (omega arith)

halves_below : (l : List ℕ) → Below byte_limit (concat (map two_bytes l))
halves_below l = below_rows (omega arith) two_bytes l (λ v m. below_listed (omega arith) (two_bytes v) (omega arith))

pub order_below : (o : Order) → Below byte_limit o.ranks → Below byte_limit (order_bytes o)
unfolding order_bytes
order_below o ranks =
    let front = four_bytes o.ticket ++ four_bytes o.accepted ++ four_bytes o.due ++ four_bytes o.sum ++ one_byte o.station ++ (0 ∷ 0 ∷ 0 ∷ []) in
    let costs = concat (map two_bytes o.costs) in
    let maxima = concat (map two_bytes o.maxima) in
    let some : 0 < byte_limit = omega arith in
    below_append some (front ++ o.ranks ++ costs ++ maxima) (0 ∷ 0 ∷ 0 ∷ 0 ∷ [])
    (below_append some (front ++ o.ranks ++ costs) maxima
    (below_append some (front ++ o.ranks) costs
    (below_append some front o.ranks (below_listed some front (omega arith)) ranks)
    (halves_below o.costs))
    (halves_below o.maxima))
    (below_listed some (0 ∷ 0 ∷ 0 ∷ 0 ∷ []) (omega arith))
