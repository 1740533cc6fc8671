-- What one byte more makes of what was fed: a line feed ends the line that is held, another byte is held while there is room.
use mathlib.Core.Path.{◌≡◌, refl, sym, ap, ◌∙◌}
use mathlib.Core.List.{List, [], ◌∷◌}
use Prim.Native.Nat.{ℕ, ◌+◌, ◌≤◌, ◌<◌, min}
use native.Mathlib.Numerals.{add-one}
use native.Mathlib.Omega.{arith}
use lib.ListN.{length, get_or, set, take}
use lib.Seq.{take-suc, take_all}
use lib.Dec.{leb}
use borrow.Author.Tests.{lt-ltb, le-ltb, leb-true, leb-false, eq-eqb, ne_eqb}
use Rattle.text.specs.Parts.{line_feed}
use Rattle.lists.proofs.Tests.{either}
use Rattle.log_model.specs.declared.Rerun.{Rerun}
use Rattle.log_model.specs.Limits.{max_line}
use Rattle.log_model.specs.Reading.{Ran, line_ended, Fed, held_line, holding, fed_line_feed, fed_byte, fed_all}
use Rattle.log_model.proofs.Feeding.{fed_append}

-- What was fed, by its parts.
abbrev pub fed : Rerun → List ℕ → ℕ → List ℕ → Fed
fed rerun pending held image = record { reading = record { rerun = rerun; pending = pending; held = held }; image = image }

pub fed_none : (f : Fed) → f ≡ fed_all f []
unfolding fed_all
fed_none f = refl

-- One byte more of a chunk.
pub fed_more : (f : Fed) (chunk : List ℕ) (i : ℕ) {g : Fed} → i < length chunk → g ≡ fed_all f (take i chunk) → (h : Fed) → h ≡ fed_byte g (get_or chunk i 0) → h ≡ fed_all f (take (i + 1) chunk)
unfolding fed_all
fed_more f chunk i l before h now =
    rw (add-one, take-suc chunk i 0 l, fed_append f (take i chunk) (get_or chunk i 0 ∷ []), ← before) now

module _ (rerun : Rerun) (pending : List ℕ) (held : ℕ) (image : List ℕ) where
  held_line_lem : (end : ℕ) → length pending ≡ max_line → end ≡ min held max_line → take end pending ≡ take held pending
  held_line_lem end long e =
      either (λ b. take end pending ≡ take held pending) (leb held max_line)
      (λ few. let is : end ≡ held = omega (arith, leb-true held max_line few) in rw is)
      (λ many.
      let beyond = leb-false held max_line many in
      take_all end pending (omega arith) ∙ sym (take_all held pending (omega arith)))

  pub line_fed : (b end : ℕ) {s : Rerun} {left : List ℕ} → b ≡ line_feed → length pending ≡ max_line → end ≡ min held max_line → ◌≡◌ {A = Ran} (record { rerun = s; image = left }) (line_ended (record { rerun = rerun; image = image }) (take end pending)) → fed s pending 0 left ≡ fed_byte (fed rerun pending held image) b
  unfolding fed_byte fed_line_feed held_line
  line_fed b end is long e ended =
      rw (eq-eqb b line_feed is, ← held_line_lem end long e) (ap (λ (r : Ran). fed r.rerun pending 0 r.image) ended)

  pub byte_held : (b : ℕ) → (b ≡ line_feed → ⊥) → held < max_line → fed rerun (set pending held b) (held + 1) image ≡ fed_byte (fed rerun pending held image) b
  unfolding fed_byte holding
  byte_held b other room = rw (ne_eqb b line_feed other, lt-ltb held max_line room)

  pub byte_passed : (b : ℕ) → (b ≡ line_feed → ⊥) → max_line ≤ held → fed rerun pending held image ≡ fed_byte (fed rerun pending held image) b
  unfolding fed_byte holding
  byte_passed b other full = rw (ne_eqb b line_feed other, le-ltb held max_line full)
