-- Document 01, "The questions, first "no" decides": 1 to 10 of an offer, as facts about what is lent.
use Rattle.std.specs.Prelude.{◌≡◌, List, ℕ, ◌≤◌, ◌<◌, length}
use Rattle.model.specs.declared.Block.{Block}
use Rattle.model.specs.Limits.{max_live, max_cost, max_due_in, last_tick}
use Rattle.model.specs.Lists.{at}
use Rattle.model.specs.State.{State}
use Rattle.model.specs.Layout.{block_size}
use Rattle.model.specs.Image.{decode}
use Rattle.model.specs.Admission.{block_of, due_of}
use Rattle.image_laws.specs.Usable.{Usable}

-- 6 to 10, of a block at a state.
pub record Fitting (s : State) (b : Block) : Type 0 where
  -- 6. "Costs of stations 1 to N in range, costs and ranks beyond N zero?"
  pub cost_low : (k : ℕ) → 1 ≤ k → k ≤ s.n → 1 ≤ at 0 b.costs k
  pub cost_high : (k : ℕ) → 1 ≤ k → k ≤ s.n → at 0 b.costs k ≤ max_cost
  pub cost_beyond : (k : ℕ) → s.n < k → at 0 b.costs k ≡ 0
  pub rank_beyond : (k : ℕ) → s.n < k → at 0 b.ranks k ≡ 0
  -- 7. "Due-in 0 to 60,000?"
  pub due_in : b.due_in ≤ max_due_in
  -- 8. "Due tick at most 4,000,000,000?"
  pub due_tick : due_of s.clock b ≤ last_tick
  -- 9. "A ticket left?"
  pub ticket_left : 1 ≤ s.next
  -- 10. "Fewer than 32 live?"
  pub room : length s.orders < max_live

pub record Considered (image block reply : List ℕ) : Type 0 where
  -- 1 to 4.
  pub usable : Usable image reply
  -- 5. "Order block 28 bytes?"
  pub block_whole : length block ≡ block_size
  pub fitting : Fitting (decode image) (block_of block)
