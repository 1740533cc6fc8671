-- The block with costs of two bytes is the block where its costs are in range; where they are not, neither has costs in range.
use mathlib.Core.Path.{◌≡◌}
use mathlib.Core.Logic.{◌⊎◌, inl, inr}
use mathlib.Core.Bool.{true, false, cond}
use Prim.Native.Nat.{ℕ, ◌≤◌, ◌<◌}
use native.Mathlib.Omega.{arith}
use lib.Dec.{leb, ltb}
use borrow.Author.Tests.{ltb-true, ltb-false, leb-true}
use Rattle.model.specs.Limits.{max_stations, max_cost}
use Rattle.model.specs.Soundness.{costs_in_range}
use Rattle.model.specs.Formats.{FormatOrder, format_cost, up_to_station, format_block}
use Rattle.lists.proofs.Fills.{upward_from}
use Rattle.schedule.proofs.Laws.{test}
use Rattle.image_laws.proofs.Clauses.{costs_say}
use Rattle.call_laws.specs.FormatExact.{Readable}
use Rattle.call_laws.proofs.formats.Block.{row_eight, row_in, few_moving, format_cost_lem}
use Rattle.call_laws.proofs.formats.Exact.{costs_are, one_above}
use Rattle.admission.specs.Formats.{held_cost, held_block}
use Rattle.admission.proofs.formats.FormatLaws.{held_in, held_over}

-- Rows with the same entries up to station n are the same.
row_same : (n : ℕ) (a b : ℕ → ℕ) → ((k : ℕ) → 1 ≤ k → k ≤ n → a k ≡ b k) → up_to_station n a ≡ up_to_station n b
unfolding up_to_station
row_same n a b same = upward_from 1 max_stations (λ k. cond (leb k n) (a k) 0) (λ k. cond (leb k n) (b k) 0) (λ k low high. elim (test (leb k n)) [ inl t ↦ rw (t, same k low (leb-true k n t)) | inr t ↦ rw t ])

module _ (n : ℕ) (f : FormatOrder) (r : Readable n f) where
  few : n ≤ max_stations
  few = few_moving n f r

  held_same : costs_in_range n (format_block n f).costs ≡ true → held_block n f ≡ format_block n f
  unfolding held_block format_block
  held_same e =
      rw (row_same n (λ k. held_cost (format_cost f k)) (format_cost f) (λ k low high. held_in (format_cost f k) (omega (arith, ((costs_are n f r).tells e k low high).1, format_cost_lem n f k low high (omega (arith, few))))))

  held_above : costs_in_range n (format_block n f).costs ≡ false → costs_in_range n (held_block n f).costs ≡ false
  unfolding held_block
  held_above e =
      elim (test (costs_in_range n (held_block n f).costs)) [
        | inl t ↦
            let w = (one_above n f r).only e in
            let entry : ℕ → ℕ = λ k. held_cost (format_cost f k) in
            let c = ((costs_say n (held_block n f).costs (rw (row_eight n entry) few)).tells t w.0 w.1 w.2).1 in
            absurd (above (format_cost f w.0) w.3 (rw (row_in n entry w.0 w.1 w.2 (omega (arith, w.2, few))) at c))
        | inr t ↦ t
      ]
    where
      above : (c : ℕ) → max_cost < c → held_cost c ≤ max_cost → ⊥
      above c high low =
          elim (test (ltb c 65536)) [
            | inl t ↦ omega (arith, rw (held_in c (ltb-true c 65536 t)) at low)
            | inr t ↦ omega (arith, rw (held_over c (ltb-false c 65536 t)) at low)
          ]

  pub held_or_above : (held_block n f ≡ format_block n f) ⊎ ((costs_in_range n (held_block n f).costs ≡ false) × (costs_in_range n (format_block n f).costs ≡ false))
  held_or_above = elim (test (costs_in_range n (format_block n f).costs)) [ inl t ↦ inl (held_same t) | inr t ↦ inr (held_above t, t) ]
