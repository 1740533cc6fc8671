-- The block that an order by format stands for: its rows by their entries, and the bytes that say it.
use mathlib.Core.Path.{◌≡◌, refl, sym, ap, ◌∙◌}
use mathlib.Core.Logic.{inl, inr}
use mathlib.Core.Bool.{cond}
use Prim.Native.Nat.{ℕ, zero, suc, ◌+◌, ◌≤◌, ◌<◌}
use native.Mathlib.Omega.{arith}
use lib.ListN.{length, get_or, get_or-eq_default}
use lib.Dec.{leb, ltb}
use borrow.Author.Tests.{leb-true, leb-false, ltb-true, ltb-false, le-leb, lt-leb}
use Rattle.model.specs.declared.Block.{Block}
use Rattle.model.specs.Limits.{max_stations}
use Rattle.model.specs.Lists.{at, concat}
use Rattle.model.specs.Bytes.{eight_bytes, eight_halves}
use Rattle.model.specs.Layout.{block_size}
use Rattle.model.specs.Admission.{block_of, block_bytes}
use Rattle.model.specs.Formats.{FormatOrder, speeds, format_cost, up_to_station, format_block}
use Rattle.lists.proofs.Fills.{length-upward, get_d_from}
use Rattle.schedule.proofs.Laws.{test}
use Rattle.image_laws.specs.InRange.{half_limit, word_limit, Below, Row}
use Rattle.image_laws.proofs.Numbers.{word_of_four}
use Rattle.image_laws.proofs.Parts.{eight_is, halves_read}
use Rattle.call_laws.specs.FormatExact.{Readable, Writable}

-- ---- a row: entries up to station n, and zeros beyond
module _ (n : ℕ) (entry : ℕ → ℕ) where
  pub row_eight : length (up_to_station n entry) ≡ max_stations
  unfolding up_to_station
  row_eight = length-upward 1 max_stations _

  row_at : (i : ℕ) → i < max_stations → get_or (up_to_station n entry) i 0 ≡ cond (leb (suc i) n) (entry (suc i)) 0
  unfolding up_to_station
  row_at i h = let e : 1 + i ≡ suc i = omega arith in rw e at (get_d_from 1 max_stations (λ k. cond (leb k n) (entry k) 0) i 0 h)

  pub row_in : (k : ℕ) → 1 ≤ k → k ≤ n → k ≤ max_stations → at 0 (up_to_station n entry) k ≡ entry k
  row_in zero low high few = absurd (let w : ⊥ = omega arith in w)
  row_in (suc i) low high few = row_at i (omega arith) ∙ rw (le-leb (suc i) n high)

  pub row_beyond : (k : ℕ) → n < k → at 0 (up_to_station n entry) k ≡ 0
  row_beyond zero h = refl
  row_beyond (suc i) h =
      elim (test (ltb i max_stations)) [
        | inl t ↦ row_at i (ltb-true i max_stations t) ∙ rw (lt-leb (suc i) n h)
        | inr t ↦ get_or-eq_default (up_to_station n entry) 0 (omega (arith, row_eight, ltb-false i max_stations t))
      ]

  -- A row of n entries that are below a limit is below it throughout.
  pub row_below : (limit : ℕ) → 1 ≤ limit → n ≤ max_stations → ((k : ℕ) → 1 ≤ k → k ≤ n → entry k < limit) → Below limit (up_to_station n entry)
  row_below limit some few below i =
      elim (test (ltb i n)) [
        | inl t ↦ let h = ltb-true i n t in rw (row_in (suc i) (omega arith) (omega arith) (omega arith)) (below (suc i) (omega arith) (omega arith))
        | inr t ↦ rw (row_beyond (suc i) (omega (arith, ltb-false i n t))) some
      ]

-- ---- the bytes of a block
module _ (b : Block) (due_in : b.due_in < word_limit) (ranks : length b.ranks ≡ max_stations) (costs : Row half_limit b.costs) where
  -- With its rows written out by their entries.
  abbrev spelled : Block
  spelled = record { due_in = b.due_in; ranks = eight_bytes b.ranks 0; costs = eight_bytes b.costs 0 }

  spelled_is : spelled ≡ b
  spelled_is = rw (eight_is b.ranks ranks, eight_is b.costs costs.eight)

  spelled_read : block_of (block_bytes spelled) ≡ b
  unfolding block_of block_bytes concat eight_bytes eight_halves
  spelled_read = λ i. record { due_in = word_of_four b.due_in due_in i; ranks = eight_is b.ranks ranks i; costs = halves_read b.costs costs i }

  pub block_read : block_of (block_bytes b) ≡ b
  block_read = ap (λ (x : Block). block_of (block_bytes x)) (sym spelled_is) ∙ spelled_read

  pub block_length : length (block_bytes b) ≡ block_size
  unfolding block_bytes concat eight_bytes
  block_length = ap (λ (x : Block). length (block_bytes x)) (sym spelled_is)

-- ---- the block of an order by format
module _ (n : ℕ) (f : FormatOrder) where
  pub format_ranks_eight : length (format_block n f).ranks ≡ max_stations
  unfolding format_block
  format_ranks_eight = row_eight n _

  pub format_costs_eight : length (format_block n f).costs ≡ max_stations
  unfolding format_block
  format_costs_eight = row_eight n _

  pub format_cost_lem : (k : ℕ) → 1 ≤ k → k ≤ n → k ≤ max_stations → at 0 (format_block n f).costs k ≡ format_cost f k
  unfolding format_block
  format_cost_lem = row_in n (format_cost f)

  pub format_beyond : ((k : ℕ) → n < k → at 0 (format_block n f).costs k ≡ 0) × ((k : ℕ) → n < k → at 0 (format_block n f).ranks k ≡ 0)
  unfolding format_block
  format_beyond = (row_beyond n (format_cost f), row_beyond n _)

  -- With a speed at each of n stations there are no more than a sheet has.
  pub few_moving : Readable n f → n ≤ max_stations
  unfolding speeds eight_halves
  few_moving r =
      elim (test (leb n max_stations)) [
        | inl t ↦ leb-true n max_stations t
        | inr t ↦ absurd (let h = leb-false n max_stations t in let w : ⊥ = omega (arith, r.moving 9 (omega arith) (omega arith)) in w)
      ]

  module _ (w : Writable n f) where
    costs_row : Row half_limit (format_block n f).costs
    unfolding format_block
    costs_row = record { eight = row_eight n _; below = row_below n (format_cost f) half_limit (omega arith) (few_moving w.readable) w.costs_fit }

    due_in_is : (format_block n f).due_in < word_limit
    unfolding format_block
    due_in_is = w.due_in_fits

    pub format_read : block_of (block_bytes (format_block n f)) ≡ format_block n f
    format_read = block_read (format_block n f) due_in_is format_ranks_eight costs_row

    pub format_length : length (block_bytes (format_block n f)) ≡ block_size
    format_length = block_length (format_block n f) due_in_is format_ranks_eight costs_row
