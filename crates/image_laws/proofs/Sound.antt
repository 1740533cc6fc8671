-- The statements about sound images, from the clauses, the facts and the parts of an image.
use mathlib.Core.Path.{◌≡◌, refl, sym, subst}
use mathlib.Core.Logic.{◌⊎◌, inl, inr}
use mathlib.Core.Bool.{true}
use mathlib.Core.List.{List}
use Prim.Native.Nat.{ℕ, zero, suc, ◌*◌, ◌-◌, ◌≤◌, ◌<◌}
use native.Mathlib.Omega.{arith}
use lib.ListN.{length, get_or}
use borrow.Author.Tests.{leb-true}
use Rattle.model.specs.Limits.{max_live}
use Rattle.model.specs.Lists.{all}
use Rattle.model.specs.State.{State, idle}
use Rattle.model.specs.Layout.{record_size}
use Rattle.model.specs.Image.{live_count, service_bytes, decode, encode}
use Rattle.model.specs.Soundness.{live_count_in_range, unused_records_zero}
use Rattle.lists.proofs.Fills.{past}
use Rattle.schedule.specs.Valid.{serving, Busy}
use Rattle.schedule.proofs.Laws.{leb_cases}
use Rattle.image_laws.specs.InRange.{OrderInRange, InRange}
use Rattle.image_laws.specs.RoundTrip.{EncodeDecode}
use Rattle.image_laws.specs.SoundFacts.{SoundState, SoundGives, GivesSound, SoundValid}
use Rattle.image_laws.proofs.Rows.{get_d_in}
use Rattle.image_laws.proofs.Parts.{station_zeros, end_zeros}
use Rattle.image_laws.proofs.Written.{live_read, service_part_lem, record_part_lem, spare_part, decode-encode}
use Rattle.image_laws.proofs.Read.{decode_in_range}
use Rattle.image_laws.proofs.Zeros.{ZeroParts, zero_bytes_say, zeros_zero}
use Rattle.image_laws.proofs.Rewritten.{rewritten}
use Rattle.image_laws.proofs.Facts.{Passed, sound_says, facts, passed}

few_live : (image : List ℕ) → Passed image (decode image) → live_count image ≤ max_live
unfolding live_count_in_range
few_live image p = leb-true (live_count image) max_live p.live

pub encode-decode : EncodeDecode
encode-decode image long bytes mark e =
    let p = (sound_says image).tells e in
    rewritten image long bytes (few_live image p) ((zero_bytes_say image).tells p.zeros) mark p.unused

pub sound_gives : SoundGives
sound_gives image bytes e =
    let p = (sound_says image).tells e in
    let f = decode_in_range image bytes (few_live image p) in
    record { facts = facts image (decode image) f p; in_range = f }

-- The zero bytes of a state's image.
module _ (s : State) (f : InRange s) where
  zero_parts : ZeroParts (encode s)
  unfolding encode service_bytes all
  zero_parts =
      record {
        header = refl;
        entry = λ i h. rw (service_part_lem s f i h);
        station = λ i h. rw (record_part_lem s f i h, station_zeros (get_or s.orders i past) (order i h));
        end = λ i h. rw (record_part_lem s f i h, end_zeros (get_or s.orders i past) (order i h));
      }
    where
      order : (i : ℕ) → i < length s.orders → OrderInRange (get_or s.orders i past)
      order i h = f.orders (get_or s.orders i past) (get_d_in s.orders past i h)

  unused_zero : unused_records_zero (encode s) ≡ true
  unfolding unused_records_zero
  unused_zero = rw (live_read s, spare_part s f) (zeros_zero (record_size * (max_live - length s.orders)))

pub gives_sound : GivesSound
gives_sound s h =
    let f = h.in_range in
    let p = passed (encode s) s f (live_read s) ((zero_bytes_say (encode s)).passes (zero_parts s f)) (unused_zero s f) h.facts in
    (sound_says (encode s)).passes (subst (λ (t : State). Passed (encode s) t) (sym (decode-encode s f)) p)

pub sound_valid : SoundValid
sound_valid s h =
    record {
      entries = rw h.in_range.eight g.n_high;
      service = at_station;
      rising = g.rising;
      below = g.below;
      fit = λ o m. let r = g.orders o m in record { named = r.named; low = r.station_low; high = r.station_high; costs = r.cost_low };
    }
  where
    g : SoundState s
    g = h.facts

    at_station : (k : ℕ) → (serving s k ≡ idle) ⊎ Busy s k
    at_station zero = inl refl
    at_station (suc i) = elim (leb_cases (suc i) s.n) [ inl t ↦ g.services (suc i) (omega arith) t.1 | inr t ↦ inl (g.idle_beyond (suc i) t.1) ]
