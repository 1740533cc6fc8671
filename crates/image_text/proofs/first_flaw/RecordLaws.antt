-- The clauses of all live orders, one order more.
use mathlib.Core.Path.{◌≡◌, refl, sym}
use mathlib.Core.Bool.{true}
use Prim.Native.Nat.{ℕ, ◌+◌}
use lib.Dec.{leb}
use Rattle.model.specs.declared.Order.{Order}
use Rattle.model.specs.Lists.{all, upward}
use Rattle.model.specs.DelayBound.{on_time}
use Rattle.model.specs.Soundness.{due_in_range, station_in_use, costs_in_range, maxima_in_range, sum_in_range, record_zero_beyond}
use Rattle.lists.proofs.Tests.{all-upward}
use Rattle.soundness.specs.Records.{tests_of, both_of}
use Rattle.image_text.specs.Records.{tests_of_all}

module _ (n clock : ℕ) (f : ℕ → Order) where
  pub tested_none : record { accepted = true; due = true; station = true; costs = true; maxima = true; sum = true; on_time = true; beyond = true } ≡ tests_of_all n clock (upward 0 0 f)
  unfolding tests_of_all all upward
  tested_none = refl

  pub tested_more : (i : ℕ) → both_of (tests_of_all n clock (upward 0 i f)) (tests_of n clock (f i)) ≡ tests_of_all n clock (upward 0 (i + 1) f)
  unfolding both_of tests_of tests_of_all
  tested_more i = λ j.
      record {
        accepted = sym (all-upward (λ (o : Order). leb o.accepted clock) i f) j;
        due = sym (all-upward due_in_range i f) j;
        station = sym (all-upward (station_in_use n) i f) j;
        costs = sym (all-upward (λ (o : Order). costs_in_range n o.costs) i f) j;
        maxima = sym (all-upward (maxima_in_range n) i f) j;
        sum = sym (all-upward sum_in_range i f) j;
        on_time = sym (all-upward (on_time n) i f) j;
        beyond = sym (all-upward (record_zero_beyond n) i f) j;
      }
