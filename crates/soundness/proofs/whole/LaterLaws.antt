-- The clauses after the counts, put together from what the functions say of the image.
use mathlib.Core.Path.{◌≡◌}
use mathlib.Core.Bool.{Bool, ◌&&◌}
use mathlib.Core.List.{List}
use Prim.Native.Nat.{ℕ}
use lib.ListN.{drop}
use lib.Dec.{leb}
use Rattle.model.specs.declared.Order.{Order}
use Rattle.model.specs.Limits.{last_tick}
use Rattle.model.specs.Lists.{all}
use Rattle.model.specs.Bytes.{byte, word}
use Rattle.model.specs.Layout.{station_count_at, clock_at}
use Rattle.model.specs.Image.{live_count, services_of, orders_of, decode}
use Rattle.model.specs.DelayBound.{on_time}
use Rattle.model.specs.Soundness.{clock_in_range, zero_bytes_zero, unused_records_zero, tickets_in_order, accepted_by_now, due_in_range, station_in_use, costs_in_range, maxima_in_range, sum_in_range, record_zero_beyond, is_idle, fields_beyond_zero, services_in_order, clauses}
use Rattle.lists.proofs.Tests.{and_true, and_assoc, all_both}
use Rattle.soundness.specs.Holds.{record_holds}
use Rattle.soundness.specs.Whole.{later_hold}

-- Each clause of all orders, in the place of all clauses of each.
module _ (n clock : ℕ) (l : List Order) where
  abbrev accepted : Order → Bool
  accepted o = leb o.accepted clock

  abbrev due : Order → Bool
  due o = accepted o && due_in_range o

  abbrev station : Order → Bool
  station o = due o && station_in_use n o

  abbrev costs : Order → Bool
  costs o = station o && costs_in_range n o.costs

  abbrev maxima : Order → Bool
  maxima o = costs o && maxima_in_range n o

  abbrev sum : Order → Bool
  sum o = maxima o && sum_in_range o

  abbrev on_time_lem : Order → Bool
  on_time_lem o = sum o && on_time n o

  clause_by_clause : all (record_holds n clock) l
      ≡ (all accepted l && all due_in_range l && all (station_in_use n) l && all (λ (o : Order). costs_in_range n o.costs) l && all (maxima_in_range n) l && all sum_in_range l && all (on_time n) l && all (record_zero_beyond n) l)
  unfolding record_holds
  clause_by_clause =
      rw (
        all_both on_time_lem (record_zero_beyond n) l,
        all_both sum (on_time n) l,
        all_both maxima sum_in_range l,
        all_both costs (maxima_in_range n) l,
        all_both station (λ (o : Order). costs_in_range n o.costs) l,
        all_both due (station_in_use n) l,
        all_both accepted due_in_range l,
      )

module _ (image : List ℕ) where
  all_in_one : (leb (word image clock_at) last_tick && zero_bytes_zero image && unused_records_zero image && tickets_in_order (decode image) && all (record_holds (byte image station_count_at) (word image clock_at)) (orders_of image (live_count image)) && all is_idle (drop (byte image station_count_at) (services_of image)) && services_in_order (decode image))
      ≡ later_hold image
  unfolding later_hold clauses decode clock_in_range accepted_by_now fields_beyond_zero all
  all_in_one =
      rw (clause_by_clause (byte image station_count_at) (word image clock_at) (orders_of image (live_count image))) (simp (and_assoc, and_true))

  pub hold_is : {n live clock : ℕ} {zero unused tickets held idle served : Bool}
      → n ≡ byte image station_count_at
      → live ≡ live_count image
      → clock ≡ word image clock_at
      → zero ≡ zero_bytes_zero image
      → unused ≡ unused_records_zero image
      → tickets ≡ tickets_in_order (decode image)
      → held ≡ all (record_holds n clock) (orders_of image live)
      → idle ≡ all is_idle (drop n (services_of image))
      → served ≡ services_in_order (decode image)
      → (leb clock last_tick && zero && unused && tickets && held && idle && served) ≡ later_hold image
  hold_is en el ec ez eu ek eh ei er = rw (ez, eu, ek, eh, ei, er, en, el, ec) all_in_one
