-- The clauses after the counts by name, put together from what the functions say of the image.
use mathlib.Core.Path.{◌≡◌, refl}
use mathlib.Core.Bool.{Bool, ◌&&◌}
use mathlib.Core.List.{List, [], ◌∷◌}
use Prim.Native.Nat.{ℕ}
use lib.ListN.{drop}
use lib.Dec.{leb}
use Rattle.model.specs.Limits.{last_tick}
use Rattle.model.specs.Lists.{all}
use Rattle.model.specs.Bytes.{byte, word}
use Rattle.model.specs.Layout.{station_count_at, clock_at}
use Rattle.model.specs.Image.{live_count, services_of, orders_of, decode}
use Rattle.model.specs.Soundness.{clock_in_range, zero_bytes_zero, unused_records_zero, tickets_in_order, accepted_by_now, is_idle, fields_beyond_zero, services_in_order}
use Rattle.soundness.specs.declared.records.Tests.{Tests}
use Rattle.image_text.specs.declared.first_flaw.Flaw.{Flaw}
use Rattle.image_text.specs.declared.first_flaw.Flaw.TheVariants.{Clock, ZeroBytes, UnusedRecords, Tickets, Acceptance, Due, Station, Costs, Maxima, Sum, OnTime, Beyond, Services}
use Rattle.image_text.specs.Records.{tests_of_all}
use Rattle.image_text.specs.FirstFlaw.{later_clauses}

abbrev joined : ℕ → Tests → Bool → Bool → Bool → Bool → Bool → List (Bool × Flaw)
joined clock tests zero unused tickets idle served =
    (leb clock last_tick, Clock)
    ∷ (zero, ZeroBytes)
    ∷ (unused, UnusedRecords)
    ∷ (tickets, Tickets)
    ∷ (tests.accepted, Acceptance)
    ∷ (tests.due, Due)
    ∷ (tests.station, Station)
    ∷ (tests.costs, Costs)
    ∷ (tests.maxima, Maxima)
    ∷ (tests.sum, Sum)
    ∷ (tests.on_time, OnTime)
    ∷ (tests.beyond && idle, Beyond)
    ∷ (served, Services)
    ∷ []

module _ (image : List ℕ) where
  named : joined (word image clock_at) (tests_of_all (byte image station_count_at) (word image clock_at) (orders_of image (live_count image)))
      (zero_bytes_zero image)
      (unused_records_zero image)
      (tickets_in_order (decode image))
      (all is_idle (drop (byte image station_count_at) (services_of image)))
      (services_in_order (decode image)) ≡ later_clauses image
  unfolding later_clauses decode clock_in_range accepted_by_now fields_beyond_zero tests_of_all
  named = refl

  pub later_is : {n live clock : ℕ} {tests : Tests} {zero unused tickets idle served : Bool}
      → n ≡ byte image station_count_at
      → live ≡ live_count image
      → clock ≡ word image clock_at
      → tests ≡ tests_of_all n clock (orders_of image live)
      → zero ≡ zero_bytes_zero image
      → unused ≡ unused_records_zero image
      → tickets ≡ tickets_in_order (decode image)
      → idle ≡ all is_idle (drop n (services_of image))
      → served ≡ services_in_order (decode image)
      → joined clock tests zero unused tickets idle served ≡ later_clauses image
  later_is en el ec et ez eu ek ei er = rw (et, ez, eu, ek, ei, er, en, el, ec) named
