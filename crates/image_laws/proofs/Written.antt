-- The image of a state in range: header, station entries, live records, spare zeros. Each part is read as it was written.
use mathlib.Core.Path.{◌≡◌, refl, ap, ◌∙◌}
use mathlib.Core.List.{List, [], ◌∷◌, ◌++◌, map, append_assoc}
use Prim.Native.Nat.{ℕ, zero, suc, ◌+◌, ◌*◌, ◌-◌, ◌<◌}
use native.Mathlib.Omega.{arith}
use lib.ListN.{length, get_or, drop, replicate, length-append, length-replicate}
use lib.Seq.{drop_at}
use Rattle.model.specs.declared.Order.{Order}
use Rattle.model.specs.Lists.{concat, upward, same}
use Rattle.model.specs.Limits.{max_stations, max_live}
use Rattle.model.specs.Bytes.{two_bytes, four_bytes}
use Rattle.model.specs.State.{State, idle}
use Rattle.model.specs.Layout.{mark, version, services_at, service_size, records_at, record_size, service_part, record_part}
use Rattle.model.specs.Image.{marked, live_count, service_of, service_bytes, order_of, order_bytes, decode, encode}
use Rattle.lists.proofs.Fills.{past}
use Rattle.schedule.specs.Valid.{◌∈◌}
use Rattle.image_laws.specs.InRange.{byte_limit, Below, InRange}
use Rattle.image_laws.specs.RoundTrip.{DecodeEncode, EncodeLength, EncodeBytes, EncodeMarked}
use Rattle.image_laws.proofs.Numbers.{word_of_four}
use Rattle.image_laws.proofs.Rows.{part_after, rows_length, rows_part, read_each, get_d_in, below_append, below_listed, below_rows}
use Rattle.image_laws.proofs.Parts.{service_read, service_length, service_below, order_read, order_length, order_below}

-- The parts of an image.
abbrev pub header : State → List ℕ
header s = mark ++ two_bytes version ++ (s.n ∷ length s.orders ∷ 0 ∷ []) ++ four_bytes s.clock ++ four_bytes s.next

abbrev pub entries : State → List ℕ
entries s = concat (map service_bytes s.services)

abbrev pub records : State → List ℕ
records s = concat (map order_bytes s.orders)

abbrev pub spare : State → List ℕ
spare s = replicate (record_size * (max_live - length s.orders)) 0

pub encode-marked : EncodeMarked
unfolding marked encode same
encode-marked s = refl

module _ (s : State) where
  pub live_read : live_count (encode s) ≡ length s.orders
  unfolding encode
  live_read = refl

  pub parts : encode s ≡ header s ++ entries s ++ records s ++ spare s
  unfolding encode
  parts = refl

  pub after_header : encode s ≡ header s ++ (entries s ++ (records s ++ spare s))
  after_header = parts ∙ simp append_assoc

  pub after_entries : encode s ≡ (header s ++ entries s) ++ (records s ++ spare s)
  after_entries = parts ∙ append_assoc (header s ++ entries s) (records s) (spare s)

module _ (s : State) (f : InRange s) where
  pub entries_length : length (entries s) ≡ service_size * max_stations
  entries_length = rows_length service_bytes service_size s.services (λ e m. service_length e) ∙ rw f.eight

  records_sized : (o : Order) → o ∈ s.orders → length (order_bytes o) ≡ record_size
  records_sized o m = order_length o (f.orders o m)

  pub front_length : length (header s ++ entries s) ≡ records_at
  front_length = omega (arith, length-append (header s) (entries s), entries_length)

  records_length : length (header s ++ entries s ++ records s) ≡ records_at + record_size * length s.orders
  records_length =
      length-append (header s ++ entries s) (records s)
      ∙ rw (front_length, rows_length order_bytes record_size s.orders records_sized)

  pub service_part_lem : (i : ℕ) → i < max_stations → service_part (encode s) i ≡ service_bytes (get_or s.services i idle)
  service_part_lem i h =
      rw (after_header s)
      (part_after (header s) (entries s ++ (records s ++ spare s)) (service_size * i) (services_at + service_size * i) service_size refl
      ∙ rows_part service_bytes service_size idle s.services (records s ++ spare s) (λ e m. service_length e) i (rw f.eight h))

  services_read : upward 0 max_stations (λ i. service_of (service_part (encode s) i)) ≡ s.services
  services_read =
      read_each idle s.services max_stations (λ i. service_of (service_part (encode s) i)) f.eight
      (λ i h. ap service_of (service_part_lem i h) ∙ service_read (get_or s.services i idle) (f.services _ (get_d_in s.services idle i (rw f.eight h))))

  pub record_part_lem : (i : ℕ) → i < length s.orders → record_part (encode s) i ≡ order_bytes (get_or s.orders i past)
  record_part_lem i h =
      rw (after_entries s)
      (part_after (header s ++ entries s) (records s ++ spare s) (record_size * i) (records_at + record_size * i) record_size (rw front_length)
      ∙ rows_part order_bytes record_size past s.orders (spare s) records_sized i h)

  orders_read : upward 0 (length s.orders) (λ i. order_of (record_part (encode s) i)) ≡ s.orders
  orders_read =
      read_each past s.orders (length s.orders) (λ i. order_of (record_part (encode s) i)) refl
      (λ i h. ap order_of (record_part_lem i h) ∙ order_read (get_or s.orders i past) (f.orders _ (get_d_in s.orders past i h)))

  pub spare_part : drop (records_at + record_size * length s.orders) (encode s) ≡ spare s
  spare_part = rw (parts s) (drop_at (header s ++ entries s ++ records s) (spare s) (records_at + record_size * length s.orders) records_length)

pub encode-length : EncodeLength
encode-length s f =
    rw (parts s)
    (length-append (header s ++ entries s ++ records s) (spare s)
    ∙ rw (records_length s f, length-replicate {A = ℕ} (record_size * (max_live - length s.orders)) 0) (omega (arith, f.live)))

pub encode_bytes : EncodeBytes
encode_bytes s f ranks =
    let some : 0 < byte_limit = omega arith in
    rw (parts s)
    (below_append some (header s ++ entries s ++ records s) (spare s)
    (below_append some (header s ++ entries s) (records s)
    (below_append some (header s) (entries s)
    (below_listed some (header s) (omega (arith, f.n, f.live)))
    (below_rows some service_bytes s.services (λ e m. service_below e)))
    (below_rows some order_bytes s.orders (λ o m. order_below o (ranks o m))))
    (zeros_below (record_size * (max_live - length s.orders))))
  where
    zeros_below : (n : ℕ) → Below byte_limit (replicate n 0)
    zeros_below zero i = omega arith
    zeros_below (suc n) zero = omega arith
    zeros_below (suc n) (suc i) = zeros_below n i

pub decode-encode : DecodeEncode
unfolding decode encode
decode-encode s f = λ i.
    record {
      n = s.n;
      clock = word_of_four s.clock f.clock i;
      next = word_of_four s.next f.next i;
      services = services_read s f i;
      orders = orders_read s f i;
    }
