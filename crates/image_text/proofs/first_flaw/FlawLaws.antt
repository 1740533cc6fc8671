-- The first clause that fails, as a search from the front finds it.
use mathlib.Core.Path.{◌≡◌, refl, sym, ◌∙◌}
use mathlib.Core.Bool.{Bool, true, false, cond}
use mathlib.Core.List.{List, ◌∷◌}
use Prim.Native.Nat.{ℕ, suc, ◌+◌, ◌≤◌, ◌<◌}
use native.Mathlib.Numerals.{add-one}
use lib.ListN.{length, get_or, drop, drop_of_length-le}
use lib.Seq.{drop-cons}
use Rattle.std.proofs.Common.{Some, None}
use Rattle.image_text.specs.declared.first_flaw.Flaw.{Flaw}
use Rattle.image_text.specs.FirstFlaw.{first_of, first_failing}

in_front : (c : Bool × Flaw) (clauses : List (Bool × Flaw)) → first_failing (c ∷ clauses) ≡ cond c.0 (first_failing clauses) (Some c.1)
unfolding first_of
in_front (true, name) clauses = refl
in_front (false, name) clauses = refl

-- The first i clauses hold.
pub record Passed (clauses : List (Bool × Flaw)) (i : ℕ) : Type 0 where
  pub left : first_failing clauses ≡ first_failing (drop i clauses)

pub passed_none : (clauses : List (Bool × Flaw)) → Passed clauses 0
passed_none clauses = record { left = refl }

-- The clause at place i fails, or it holds; or no clause is left.
module _ {clauses : List (Bool × Flaw)} {i : ℕ} (p : Passed clauses i) where
  next : (d : Bool × Flaw) → i < length clauses → first_failing clauses ≡ cond (get_or clauses i d).0 (first_failing (drop (i + 1) clauses)) (Some (get_or clauses i d).1)
  next d h = p.left ∙ rw (add-one i, drop-cons clauses i d h) (in_front (get_or clauses i d) (drop (suc i) clauses))

  pub fails_here : (d : Bool × Flaw) → i < length clauses → (get_or clauses i d).0 ≡ false → Some (get_or clauses i d).1 ≡ first_failing clauses
  fails_here d h e = sym (next d h ∙ rw e)

  pub holds_here : (d : Bool × Flaw) → i < length clauses → (get_or clauses i d).0 ≡ true → Passed clauses (i + 1)
  holds_here d h e = record { left = next d h ∙ rw e }

  pub all_hold : length clauses ≤ i → None ≡ first_failing clauses
  unfolding first_of
  all_hold h = sym (p.left ∙ rw (drop_of_length-le clauses {i = i} h))
