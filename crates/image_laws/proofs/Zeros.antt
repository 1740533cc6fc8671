-- "zero bytes and unused records zero": what the clause on zero bytes says of an image's parts, and lists of zeros.
use mathlib.Core.Path.{◌≡◌, refl, ap₂}
use mathlib.Core.Bool.{true}
use mathlib.Core.List.{List, [], ◌∷◌, ◌++◌}
use Prim.Native.Nat.{ℕ, zero, suc, ◌+◌, ◌<◌}
use lib.ListN.{length, drop, replicate}
use lib.Seq.{get_or-take, get_or-drop}
use borrow.Author.Tests.{eqb-true}
use Rattle.model.specs.Limits.{max_stations}
use Rattle.model.specs.Lists.{part, is_zero, all, concat, upward}
use Rattle.model.specs.Bytes.{byte}
use Rattle.model.specs.Layout.{header_zero_at, service_zero_at, station_zero_at, record_zero_at, service_part, record_part}
use Rattle.model.specs.Image.{live_count}
use Rattle.model.specs.Soundness.{zero_bytes, zero_bytes_zero}
use Rattle.schedule.proofs.Laws.{and_both}
use Rattle.image_laws.proofs.Tests.{Says, eqb_says, in_words, append_says, rows_say, entries_say}

abbrev pub Zero : List ℕ → Type 0
Zero l = all is_zero l ≡ true

pub record ZeroParts (image : List ℕ) : Type 0 where
  pub header : Zero (part image header_zero_at 1)
  pub entry : (i : ℕ) → i < max_stations → Zero (part (service_part image i) service_zero_at 2)
  pub station : (i : ℕ) → i < live_count image → Zero (part (record_part image i) station_zero_at 3)
  pub end : (i : ℕ) → i < live_count image → Zero (part (record_part image i) record_zero_at 4)

pub zero_bytes_say : (image : List ℕ) → Says (zero_bytes_zero image) (ZeroParts image)
unfolding zero_bytes_zero zero_bytes
zero_bytes_say image =
    let entry : ℕ → List ℕ = λ i. part (service_part image i) service_zero_at 2 in
    let station : ℕ → List ℕ = λ i. part (record_part image i) station_zero_at 3 in
    let end : ℕ → List ℕ = λ i. part (record_part image i) record_zero_at 4 in
    let entries = rows_say is_zero max_stations entry in
    let records = rows_say is_zero (live_count image) (λ i. station i ++ end i) in
    let both : (i : ℕ) → Says (all is_zero (station i ++ end i)) (Zero (station i) × Zero (end i)) = λ i. append_says is_zero (station i) (end i) in
    let front = append_says is_zero (part image header_zero_at 1) (concat (upward 0 max_stations entry)) in
    in_words (append_says is_zero (part image header_zero_at 1 ++ concat (upward 0 max_stations entry)) (concat (upward 0 (live_count image) (λ i. station i ++ end i))))
    (λ t.
    record {
      header = (front.tells t.0).0;
      entry = entries.tells (front.tells t.0).1;
      station = λ i h. ((both i).tells (records.tells t.1 i h)).0;
      end = λ i h. ((both i).tells (records.tells t.1 i h)).1;
    })
    (λ z. (front.passes (z.header, entries.passes z.entry), records.passes (λ i h. (both i).passes (z.station i h, z.end i h))))

-- Each byte of a part of zeros; a list of zeros; zeros of any number.
pub zero_at : (p : List ℕ) (i n : ℕ) → Zero (part p i n) → (j : ℕ) → j < n → byte p (i + j) ≡ 0
zero_at p i n e j h =
    rw (get_or-take n (drop i p) j 0 h, get_or-drop i p j 0) at ((entries_say is_zero (λ x. x ≡ 0) (λ x. eqb_says x 0) 0 refl (part p i n)).tells e j)

pub zeros_are : (l : List ℕ) → Zero l → l ≡ replicate (length l) 0
unfolding all
zeros_are [] e = refl
zeros_are (x ∷ l) e =
    let t = and_both (is_zero x) (all is_zero l) e in
    ap₂ (λ (y : ℕ) (m : List ℕ). y ∷ m) (eqb-true x 0 t.0) (zeros_are l t.1)

pub zeros_zero : (n : ℕ) → Zero (replicate n 0)
unfolding all
zeros_zero zero = refl
zeros_zero (suc n) = zeros_zero n
