-- What is written over the image of a state is the image of the state after the tick.
use mathlib.Core.Path.{◌≡◌, refl, sym, ap, ◌∙◌}
use mathlib.Core.List.{List, [], ◌∷◌, ◌++◌, map, append_assoc}
use Prim.Native.Nat.{ℕ, ◌+◌, ◌-◌, ◌*◌, ◌≤◌}
use native.Mathlib.Omega.{arith}
use lib.ListN.{length, take, replicate, length-append, length-replicate, replicate-append-replicate}
use Rattle.model.specs.declared.Service.{Service}
use Rattle.model.specs.declared.Order.{Order}
use Rattle.model.specs.Limits.{max_stations, max_live}
use Rattle.model.specs.Lists.{concat}
use Rattle.model.specs.Bytes.{two_bytes, four_bytes}
use Rattle.model.specs.Layout.{mark, version, services_at, service_size, records_at, record_size}
use Rattle.model.specs.State.{State}
use Rattle.model.specs.Tick.{vacate, starts, tick, leave, advance}
use Rattle.model.specs.Image.{service_bytes, orders_of, decode, encode}
use Rattle.lists.specs.Stored.{Stored}
use Rattle.lists.proofs.Stores.{stored_over}
use Rattle.image.specs.declared.pipeline.Pipeline.{Pipeline}
use Rattle.image.specs.Pipeline.{listed}
use Rattle.image_laws.proofs.Written.{header, entries, after_header, entries_length, live_read, decode-encode}
use Rattle.image_laws.proofs.Overwritten.{rear, rear_length, header_over, records_over}
use Rattle.image.specs.SoundPipeline.{SoundPipeline}
use Rattle.image.proofs.Carried.{live_is, few}
use Rattle.tick.specs.Leaving.{remaining, rows, Held, Holds, Left}
use Rattle.tick.proofs.steps.ServedLaws.{queue}

-- A sound state has a last station.
pub stations : {p : Pipeline} → SoundPipeline p → {n : ℕ} → n ≡ p.n → (1 ≤ n) × (n ≤ max_stations)
unfolding listed
stations ok e = let facts = ok.sound.facts in (omega (arith, e, facts.n_low), omega (arith, e, facts.n_high))

module _ {p : Pipeline} (ok : SoundPipeline p) where
  -- Its image: the live records, and zeros after them.
  abbrev live : List Order
  live = take p.live p.orders

  abbrev zeros : List ℕ
  zeros = replicate (record_size * (max_live - length live)) 0

  count : length live ≡ p.live
  unfolding listed
  count = sym (live_is ok)

  parted : rear (listed p) ≡ rows live ++ zeros
  unfolding listed
  parted = refl

  rows_long : length (rows live) ≡ record_size * p.live
  rows_long =
      let whole : length (rows live ++ zeros) ≡ record_size * max_live = ap length (sym parted) ∙ rear_length (listed p) ok.sound.in_range in
      omega (arith, whole, length-append (rows live) zeros, length-replicate {A = ℕ} (record_size * (max_live - length live)) 0, count, few ok)

  over : {v m : List ℕ} → length (rows live) ≡ length v → Stored (encode (listed p)) records_at v m → m ≡ header (listed p) ++ (entries (listed p) ++ (v ++ zeros))
  over h w = records_over (listed p) ok.sound.in_range (rows live) zeros parted h w

  -- The orders that stand in its image are its live orders: they are as `leave` asks for them.
  same_orders : orders_of (encode (listed p)) p.live ≡ live
  unfolding decode listed
  same_orders =
      ap (λ (k : ℕ). orders_of (encode (listed p)) k) (live_is ok ∙ sym (live_read (listed p)))
      ∙ ap (λ (s : State). s.orders) (decode-encode (listed p) ok.sound.in_range)

  pub held : Held p.n (orders_of (encode (listed p)) p.live)
  unfolding listed
  held = rw same_orders (record { room = omega (arith, count, few ok); placed = (queue ok).placed; high = λ o m. (ok.sound.facts.orders o m).station_high })

  pub holds : Holds (encode (listed p)) (orders_of (encode (listed p)) p.live)
  holds =
      rw same_orders
      (record {
        there = record { is = after_header (listed p) ∙ ap (λ (r : List ℕ). header (listed p) ++ (entries (listed p) ++ r)) parted ∙ sym (over {v = rows live} refl (record { is = refl })) };
        long = rows_long ∙ ap (λ (k : ℕ). record_size * k) (sym count);
      })

  module _ {services : List Service} {kept : ℕ} {a : List ℕ} (came : Left p.n services (orders_of (encode (listed p)) p.live) (encode (listed p)) kept a) where
    left : Left p.n services live (encode (listed p)) kept a
    left = rw same_orders at came

    abbrev rest : List Order
    rest = remaining p.n services live

    abbrev freed : List ℕ
    freed = replicate (record_size * (length live - kept)) 0

    -- The state after the tick.
    abbrev after : State
    after = record { n = p.n; clock = p.clock + 1; next = p.next; services = map vacate services; orders = rest }

    after_is : services ≡ (tick (starts (listed p))).services → after ≡ advance (listed p)
    unfolding advance leave tick starts listed remaining
    after_is e = rw e

    records_after : rows rest ++ freed ++ zeros ≡ rear after
    records_after =
        let sum : record_size * (length live - kept) + record_size * (max_live - length live) ≡ record_size * (max_live - length rest) =
        omega (arith, left.few, left.count, count, few ok) in
        append_assoc (rows rest) freed zeros
        ∙ ap (λ (z : List ℕ). rows rest ++ z)
        (replicate-append-replicate {A = ℕ} (record_size * (length live - kept)) (record_size * (max_live - length live)) 0 ∙ ap (λ (k : ℕ). replicate k 0) sum)

    as_long : length (rows live) ≡ length (rows rest ++ freed)
    as_long =
        omega (arith, rows_long, count, length-append (rows rest) freed, left.long, left.few, length-replicate {A = ℕ} (record_size * (length live - kept)) 0)

    pub written : {b c : List ℕ} → services ≡ (tick (starts (listed p))).services → Stored a 0 (mark ++ two_bytes version ++ (p.n ∷ kept ∷ 0 ∷ []) ++ four_bytes (p.clock + 1) ++ four_bytes p.next) b → Stored b services_at (concat (map service_bytes (map vacate services))) c → length (concat (map service_bytes (map vacate services))) ≡ service_size * max_stations → c ≡ encode (advance (listed p))
    written {b} {c} s h e all-entries =
        let back = rows rest ++ freed ++ zeros in
        let a_is : a ≡ header (listed p) ++ (entries (listed p) ++ back) = over as_long left.stored in
        let h_on : Stored (header (listed p) ++ (entries (listed p) ++ back)) 0 (header after) b = rw (left.count, a_is) at h in
        let b_is : b ≡ header after ++ (entries (listed p) ++ back) = header_over (listed p) back h_on refl in
        let e_on : Stored (header after ++ (entries (listed p) ++ back)) services_at (entries after) c = rw b_is at e in
        stored_over (header after) (entries (listed p)) back e_on refl (entries_length (listed p) ok.sound.in_range ∙ sym all-entries)
        ∙ ap (λ (r : List ℕ). header after ++ (entries after ++ r)) records_after
        ∙ sym (after_header after)
        ∙ ap encode (after_is s)
