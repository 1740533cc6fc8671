-- All clauses of all live orders, one order more.
use mathlib.Core.Path.{◌≡◌, sym, ◌∙◌}
use mathlib.Core.Bool.{Bool, true, false, ◌&&◌}
use mathlib.Core.List.{List}
use Prim.Native.Nat.{ℕ, ◌+◌, ◌<◌}
use lib.ListN.{replicate}
use Rattle.model.specs.declared.Order.{Order}
use Rattle.model.specs.Lists.{all, is_zero, upward}
use Rattle.model.specs.Soundness.{zero_beyond}
use Rattle.lists.proofs.Tests.{and_middle, all-upward, one_fails, zeros_zero}
use Rattle.soundness.specs.Holds.{ticks_hold, rows_hold, record_holds}
use Rattle.soundness.proofs.record_flaws.FlawLaws.{holds_is}

module _ (n clock : ℕ) (f : ℕ → Order) where
  -- The flaws and the ranks gathered so far say whether every order so far passes.
  pub held_none : all (record_holds n clock) (upward 0 0 f) ≡ (all is_zero (replicate 8 0) && zero_beyond n (replicate 8 0))
  unfolding all upward zero_beyond
  held_none = sym (zeros_zero n 8)

  pub held_more : (flaws ranks : List ℕ) (i : ℕ) {no_flaw no_rank : Bool}
      → all (record_holds n clock) (upward 0 i f) ≡ (all is_zero flaws && zero_beyond n ranks)
      → ticks_hold n clock (f i) ≡ true
      → no_flaw ≡ (all is_zero flaws && rows_hold n (f i))
      → no_rank ≡ (zero_beyond n ranks && zero_beyond n (f i).ranks)
      → all (record_holds n clock) (upward 0 (i + 1) f) ≡ (no_flaw && no_rank)
  held_more flaws ranks i e t p q =
      all-upward (record_holds n clock) i f
      ∙ rw (e, holds_is n clock (f i), t, p, q) (and_middle (all is_zero flaws) (zero_beyond n ranks) (rows_hold n (f i)) (zero_beyond n (f i).ranks))

  -- One whose ticks fail is enough.
  pub held_fails : (live i : ℕ) → i < live → ticks_hold n clock (f i) ≡ false → false ≡ all (record_holds n clock) (upward 0 live f)
  held_fails live i h e = one_fails (record_holds n clock) live f i h (holds_is n clock (f i) ∙ rw e)
