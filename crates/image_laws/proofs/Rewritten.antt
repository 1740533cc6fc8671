-- A marked and sound image is written as it was read: its header, each entry, each live record and the zeros that are left.
use mathlib.Core.Path.{◌≡◌, sym, ap, ap₂, ◌∙◌}
use mathlib.Core.Bool.{true}
use mathlib.Core.List.{List, ◌++◌}
use Prim.Native.Nat.{ℕ, ◌+◌, ◌*◌, ◌-◌, ◌≤◌, ◌<◌}
use native.Mathlib.Omega.{arith}
use lib.ListN.{length, take, drop, length-drop, take-append-drop}
use lib.Seq.{length-take-le, get_or-take, take-add}
use lib.Dec.{eqb}
use borrow.Author.Tests.{eqb-true}
use Rattle.model.specs.Limits.{max_stations, max_live}
use Rattle.model.specs.Lists.{part, same, upward}
use Rattle.model.specs.Bytes.{byte, half}
use Rattle.model.specs.Layout.{mark, version, version_at, image_size, header_zero_at, services_at, service_size, service_zero_at, records_at, record_size, station_zero_at, record_zero_at, service_part, record_part}
use Rattle.model.specs.Image.{marked, live_count, service_of, service_bytes, order_of, order_bytes, decode, encode}
use Rattle.model.specs.Soundness.{unused_records_zero}
use Rattle.lists.proofs.Fills.{length-upward}
use Rattle.lists.proofs.Tests.{same_is}
use Rattle.schedule.proofs.Laws.{and_both}
use Rattle.image_laws.specs.InRange.{byte_limit, Below}
use Rattle.image_laws.proofs.Numbers.{word_first, word_second, word_third, word_fourth}
use Rattle.image_laws.proofs.Rows.{take_each, below_part, rows_written}
use Rattle.image_laws.proofs.Parts.{service_written, order_written}
use Rattle.image_laws.proofs.Written.{header, entries, records, spare, parts}
use Rattle.image_laws.proofs.Zeros.{ZeroParts, zero_at, zeros_are}

-- The mark and the version, byte by byte.
record Marked (image : List ℕ) : Type 0 where
  first : byte image 0 ≡ 87
  second : byte image 1 ≡ 77
  third : byte image 2 ≡ 67
  version_low : byte image version_at ≡ version
  version_high : byte image (version_at + 1) ≡ 0

marked_bytes : (image : List ℕ) → marked image ≡ true → Marked image
unfolding marked
marked_bytes image e =
    let t = and_both (same (take (length mark) image) mark) (eqb (half image version_at) version) e in
    let m : take (length mark) image ≡ mark = same_is (take (length mark) image) mark t.0 in
    let v : half image version_at ≡ version = eqb-true (half image version_at) version t.1 in
    let at : (i : ℕ) → i < 3 → byte image i ≡ byte mark i = λ i h. sym (get_or-take (length mark) image i 0 h) ∙ ap (λ (l : List ℕ). byte l i) m in
    record { first = at 0 (omega arith); second = at 1 (omega arith); third = at 2 (omega arith); version_low = omega arith; version_high = omega arith }

module _ (image : List ℕ) (long : length image ≡ image_size) (bytes : Below byte_limit image) (few : live_count image ≤ max_live) (zeros : ZeroParts image) where
  part_long : (i n : ℕ) → i + n ≤ image_size → length (part image i n) ≡ n
  part_long i n h = length-take-le n (drop i image) (rw (length-drop i image, long) (omega arith))

  part_bytes : (i n : ℕ) → Below byte_limit (part image i n)
  part_bytes = below_part (omega arith) image bytes

  header_written : marked image ≡ true → header (decode image) ≡ take services_at image
  unfolding decode upward
  header_written e =
      let m = marked_bytes image e in
      let z : byte image header_zero_at ≡ 0 = zero_at image header_zero_at 1 zeros.header 0 (omega arith) in
      simp (word_first image bytes, word_second image bytes, word_third image bytes, word_fourth image bytes, length-upward)
      (rw (m.first, m.second, m.third, m.version_low, m.version_high, z) at (take_each image services_at (omega arith)))

  entries_written : entries (decode image) ≡ part image services_at (service_size * max_stations)
  unfolding decode
  entries_written =
      rows_written service_bytes service_size service_of image services_at max_stations
      (λ i h.
      service_written (service_part image i) (part_long (services_at + service_size * i) service_size (omega arith)) (part_bytes (services_at + service_size * i) service_size)
      (zero_at (service_part image i) service_zero_at 2 (zeros.entry i h)))

  records_written : records (decode image) ≡ part image records_at (record_size * live_count image)
  unfolding decode
  records_written =
      rows_written order_bytes record_size order_of image records_at (live_count image)
      (λ i h.
      order_written (record_part image i) (part_long (records_at + record_size * i) record_size (omega arith)) (part_bytes (records_at + record_size * i) record_size)
      (zero_at (record_part image i) station_zero_at 3 (zeros.station i h)) (zero_at (record_part image i) record_zero_at 4 (zeros.end i h)))

  spare_written : unused_records_zero image ≡ true → spare (decode image) ≡ drop (records_at + record_size * live_count image) image
  unfolding unused_records_zero decode
  spare_written e =
      let rest = drop (records_at + record_size * live_count image) image in
      let n : record_size * (max_live - live_count image) ≡ length rest = rw (length-drop (records_at + record_size * live_count image) image, long) (omega arith) in
      rw (length-upward 0 (live_count image) (λ i. order_of (record_part image i)), n) (sym (zeros_are rest e))

  pub rewritten : marked image ≡ true → unused_records_zero image ≡ true → encode (decode image) ≡ image
  rewritten m u =
      parts (decode image) ∙ joined upto_records (spare_written u) ∙ take-append-drop (records_at + record_size * live_count image) image
    where
      joined : {a b c d : List ℕ} → a ≡ b → c ≡ d → a ++ c ≡ b ++ d
      joined p q = ap₂ (λ (x y : List ℕ). x ++ y) p q

      upto_entries : header (decode image) ++ entries (decode image) ≡ take records_at image
      upto_entries = joined (header_written m) entries_written ∙ sym (take-add services_at (service_size * max_stations) image)

      upto_records : header (decode image) ++ entries (decode image) ++ records (decode image) ≡ take (records_at + record_size * live_count image) image
      upto_records = joined upto_entries records_written ∙ sym (take-add records_at (record_size * live_count image) image)
