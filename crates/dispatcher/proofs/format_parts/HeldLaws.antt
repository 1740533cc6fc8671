-- The block with costs of two bytes gets what the block gets: it is the same, or both are declined by 6.
use mathlib.Core.Path.{◌≡◌}
use mathlib.Core.Logic.{inl, inr}
use mathlib.Core.Bool.{false}
use mathlib.Core.List.{List}
use Prim.Native.Nat.{ℕ}
use Rattle.model.specs.declared.Block.{Block}
use Rattle.model.specs.Image.{decode}
use Rattle.model.specs.Soundness.{costs_in_range}
use Rattle.model.specs.Questions.{first_no}
use Rattle.model.specs.Admission.{block_questions, offer_answer, quote_answer}
use Rattle.model.specs.Formats.{FormatOrder, format_block}
use Rattle.model.specs.Calls.{result}
use Rattle.call_laws.specs.FormatExact.{Readable}
use Rattle.admission.specs.Formats.{held_block}
use Rattle.admission.proofs.formats.HeldLaws.{held_or_above}
use Rattle.dispatcher.specs.Taken.{block_number, quote_taken, offer_taken}

-- 6.
six : (image : List ℕ) (b : Block) → costs_in_range (decode image).n b.costs ≡ false → block_number image b ≡ 6
unfolding first_no block_questions
six image b e = rw e

module _ (image : List ℕ) (f : FormatOrder) (reply : List ℕ) (r : Readable (decode image).n f) where
  abbrev held : Block
  held = held_block (decode image).n f

  abbrev whole : Block
  whole = format_block (decode image).n f

  pub offer_held : offer_taken image held reply ≡ offer_taken image whole reply
  unfolding offer_taken result offer_answer
  offer_held =
      elim (held_or_above (decode image).n f r) [
        | inl e ↦ rw e
        | inr t ↦ rw (six image held t.0, six image whole t.1)
      ]

  pub quote_held : quote_taken image held reply ≡ quote_taken image whole reply
  unfolding quote_taken result quote_answer offer_answer
  quote_held =
      elim (held_or_above (decode image).n f r) [
        | inl e ↦ rw e
        | inr t ↦ rw (six image held t.0, six image whole t.1)
      ]
