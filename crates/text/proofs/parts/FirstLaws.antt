-- The first part of a text ends at the first separator, or with the text. By going down the text.
use mathlib.Core.Path.{◌≡◌, refl}
use mathlib.Core.Bool.{Bool, true, false, cond, not}
use mathlib.Core.List.{List, [], ◌∷◌}
use Prim.Native.Nat.{ℕ, suc, ◌+◌, ◌-◌, ◌≤◌, ◌<◌}
use native.Mathlib.Omega.{arith}
use lib.Dec.{eqb, ltb}
use lib.ListN.{length, take, drop, length-drop}
use lib.Seq.{take_all}
use borrow.Author.Tests.{ltb-true, ltb-false}
use Rattle.std.specs.List.{position, position_or_len}
use Rattle.std.proofs.Common.{Some, None}
use Rattle.text.specs.Parts.{parts}

module _ (separator : ℕ) where
  abbrev test : ℕ → Bool
  test b = eqb b separator

  at_end : (t : Bool) (b n : ℕ) (text : List ℕ) → test b ≡ t → (n < length text → parts separator text ≡ take n text ∷ parts separator (drop (n + 1) text)) → cond (not t) (1 + n) 0 < suc (length text) → parts separator (b ∷ text) ≡ take (cond (not t) (1 + n) 0) (b ∷ text) ∷ parts separator (drop (cond (not t) (1 + n) 0 + 1) (b ∷ text))
  unfolding parts
  at_end true b n text e later h = rw e
  at_end false b n text e later h =
      let more : 1 + n ≡ suc n = omega arith in
      let past : suc n + 1 ≡ suc (n + 1) = omega arith in
      rw (e, more, past, later (omega arith))

  at_last : (t : Bool) (b n : ℕ) (text : List ℕ) → test b ≡ t → (length text ≤ n → parts separator text ≡ text ∷ []) → suc (length text) ≤ cond (not t) (1 + n) 0 → parts separator (b ∷ text) ≡ (b ∷ text) ∷ []
  unfolding parts
  at_last true b n text e later h = absurd (let z : ⊥ = omega arith in z)
  at_last false b n text e later h = rw (e, later (omega arith))

  ends_here : (text : List ℕ) → position_or_len test text < length text → parts separator text ≡ take (position_or_len test text) text ∷ parts separator (drop (position_or_len test text + 1) text)
  ends_here [] h = absurd (let z : ⊥ = omega arith in z)
  ends_here (b ∷ text) h = at_end (test b) b (position_or_len test text) text refl (ends_here text) h

  ends_last : (text : List ℕ) → length text ≤ position_or_len test text → parts separator text ≡ text ∷ []
  unfolding parts
  ends_last [] h = refl
  ends_last (b ∷ text) h = at_last (test b) b (position_or_len test text) text refl (ends_last text) h

  by_place : (t : Bool) (n end : ℕ) → cond t (Some n) None ≡ Some end → (t ≡ true) × (n ≡ end)
  by_place true n end e = (refl, cc)
  by_place false n end e = absurd (let z : ⊥ = cc in z)

  no_place : (t : Bool) (n : ℕ) → cond t (Some n) None ≡ None → t ≡ false
  no_place true n e = absurd (let z : ⊥ = cc in z)
  no_place false n e = refl

  pub first_ends : (text : List ℕ) (end : ℕ) → position test text ≡ Some end → parts separator text ≡ take end text ∷ parts separator (take (length text - (end + 1)) (drop (end + 1) text))
  first_ends text end e =
      let here = by_place (ltb (position_or_len test text) (length text)) (position_or_len test text) end e in
      let rest : take (length text - (end + 1)) (drop (end + 1) text) ≡ drop (end + 1) text = take_all (length text - (end + 1)) (drop (end + 1) text) (omega (arith, length-drop (end + 1) text)) in
      rw (rest, ← here.1) (ends_here text (ltb-true (position_or_len test text) (length text) here.0))

  pub first_whole : (text : List ℕ) → position test text ≡ None → parts separator text ≡ text ∷ []
  first_whole text e =
      ends_last text (ltb-false (position_or_len test text) (length text) (no_place (ltb (position_or_len test text) (length text)) (position_or_len test text) e))
