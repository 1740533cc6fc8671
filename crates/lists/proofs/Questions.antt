-- Laws of the first "no" among questions: it decides whatever is asked after it, and questions that all pass leave it to those after them.
use mathlib.Core.Path.{◌≡◌, refl, sym}
use mathlib.Core.Bool.{Bool, true, false, not, ◌||◌, true≢false}
use mathlib.Core.List.{List, [], ◌∷◌, ◌++◌}
use Prim.Native.Nat.{ℕ, ◌≤◌}
use native.Mathlib.Omega.{arith}
use lib.Dec.{eqb}
use borrow.Author.Tests.{eq-eqb, eqb-false, not-true}
use Rattle.model.specs.Lists.{all}
use Rattle.model.specs.Questions.{Question, ◌else◌, first_no}
use Rattle.lists.proofs.Tests.{and_both}

-- A question's answer, and whether its "no" gives another number than n.
unfoldable pub answer : Question → Bool
answer (b else number) = b

unfoldable pub gives_other : ℕ → Question → Bool
gives_other n (b else number) = not (eqb number n)

-- A "no" decides, whatever is asked after it.
pub decides : (l m : List Question) (k : ℕ) → k ≡ first_no l → (k ≡ 0 → ⊥) → k ≡ first_no (l ++ m)
unfolding first_no
decides [] m k e some = absurd (some e)
decides ((true else j) ∷ l) m k e some = decides l m k e some
decides ((false else j) ∷ l) m k e some = e

-- Questions whose numbers are not 0 all pass where 0 comes out, and those after them decide.
pub passed : (l : List Question) → all (gives_other 0) l ≡ true → first_no l ≡ 0 → all answer l ≡ true
unfolding all first_no answer gives_other
passed [] h e = refl
passed ((true else j) ∷ l) h e = passed l (and_both (not (eqb j 0)) (all (gives_other 0) l) h).1 e
passed ((false else j) ∷ l) h e =
    absurd (eqb-false j 0 (not-true (eqb j 0) (and_both (not (eqb j 0)) (all (gives_other 0) l) h).0) e)

pub after : (l m : List Question) → all answer l ≡ true → first_no m ≡ first_no (l ++ m)
unfolding all first_no answer
after [] m h = refl
after ((true else j) ∷ l) m h = after l m h
after ((false else j) ∷ l) m h = absurd (true≢false (sym h))

-- Questions decide alike before lists that decide alike.
pub same_after : (l m n : List Question) → first_no m ≡ first_no n → first_no (l ++ m) ≡ first_no (l ++ n)
unfolding first_no
same_after [] m n e = e
same_after ((true else j) ∷ l) m n e = same_after l m n e
same_after ((false else j) ∷ l) m n e = refl

-- A question that passes, or whose number is another. A number that all questions spare does not come out.
unfoldable pub spares : ℕ → Question → Bool
spares k (b else j) = not (eqb j k) || b

pub never : (k : ℕ) → 1 ≤ k → (l : List Question) → all (spares k) l ≡ true → first_no l ≡ k → ⊥
unfolding all first_no spares
never k low [] e = λ z. omega (arith, z)
never k low ((true else j) ∷ l) e = never k low l (and_both (not (eqb j k) || true) (all (spares k) l) e).1
never k low ((false else j) ∷ l) e = λ z. true≢false (sym (rw (eq-eqb j k z) at (and_both (not (eqb j k) || false) (all (spares k) l) e).0))

-- Of three questions.
pub three_pass : (a b c : Bool) (i j k : ℕ) → all answer ((a else i) ∷ (b else j) ∷ (c else k) ∷ []) ≡ true → (a ≡ true) × (b ≡ true) × (c ≡ true)
unfolding all answer
three_pass a b c i j k e =
    let first = and_both a _ e in
    let second = and_both b _ first.1 in
    (first.0, second.0, (and_both c true second.1).0)
