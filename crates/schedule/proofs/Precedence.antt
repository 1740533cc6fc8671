-- `precedes` is a strict total order on orders with different tickets: lexicographic order is one on different lists of one length, and keys with different tickets
-- differ. And what it means in plain terms that an order does not go before another.
use mathlib.Core.Path.{◌≡◌, refl, sym, ap, ◌∙◌}
use mathlib.Core.Logic.{◌⊎◌, ◌≢◌, inl, inr}
use mathlib.Core.Bool.{true, false, true≢false}
use mathlib.Core.List.{List, [], ◌∷◌}
use Prim.Native.Nat.{ℕ, ◌≤◌, ◌<◌}
use native.Mathlib.Omega.{arith}
use lib.ListN.{length, get_or}
use lib.Dec.{ltb}
use borrow.Author.Tests.{ltb-true, ltb-false, lt-ltb, le-ltb, eq-eqb, ne_eqb}
use Rattle.model.specs.Lists.{at}
use Rattle.model.specs.Tick.{View, key_at, before, precedes}
use Rattle.schedule.specs.Precedence.{PrecedesInOrder}
use Rattle.schedule.proofs.Laws.{EqCase, test, eqb_cases}

-- ---- lexicographic order, by the first figures
pub before_equal : (x y : ℕ) (xs ys : List ℕ) → x ≡ y → before (x ∷ xs) (y ∷ ys) ≡ before xs ys
unfolding before
before_equal x y xs ys e = rw (eq-eqb x y e)

pub before_other : (x y : ℕ) (xs ys : List ℕ) → (x ≡ y → ⊥) → before (x ∷ xs) (y ∷ ys) ≡ ltb x y
unfolding before
before_other x y xs ys n = rw (ne_eqb x y n)

pub before_last : (x y : ℕ) → before (x ∷ []) (y ∷ []) ≡ ltb x y
unfolding before
before_last x y = elim (eqb_cases x y) [ inl q ↦ rw q.0 (sym (le-ltb x y (omega (arith, q.1)))) | inr q ↦ rw q.0 ]

before_less : (x y : ℕ) (xs ys : List ℕ) → x < y → before (x ∷ xs) (y ∷ ys) ≡ true
before_less x y xs ys h = before_other x y xs ys (λ e. omega arith) ∙ lt-ltb x y h

before_yes : (x y : ℕ) (xs ys : List ℕ) → before (x ∷ xs) (y ∷ ys) ≡ true → (x < y) ⊎ ((x ≡ y) × (before xs ys ≡ true))
unfolding before
before_yes x y xs ys e = elim (eqb_cases x y) [ inl q ↦ inr (q.1, rw q.0 at e) | inr q ↦ inl (ltb-true x y (rw q.0 at e)) ]

before_no : (x y : ℕ) (xs ys : List ℕ) → before (x ∷ xs) (y ∷ ys) ≡ false → (y ≤ x) × (x ≡ y → before xs ys ≡ false)
unfolding before
before_no x y xs ys e = go (eqb_cases x y)
  where
    go : EqCase x y → (y ≤ x) × (x ≡ y → before xs ys ≡ false)
    go (inl q) = (omega (arith, q.1), λ r. rw q.0 at e)
    go (inr q) = (ltb-false x y (rw q.0 at e), λ r. absurd (q.1 r))

-- ---- a strict total order
before_self : (xs : List ℕ) → before xs xs ≡ false
unfolding before
before_self [] = refl
before_self (x ∷ xs) = rw (eq-eqb x x refl) (before_self xs)

before_trans : (xs ys zs : List ℕ) → before xs ys ≡ true → before ys zs ≡ true → before xs zs ≡ true
unfolding before
before_trans [] ys zs p q = absurd (true≢false (sym p))
before_trans (x ∷ xs) [] zs p q = absurd (true≢false (sym p))
before_trans (x ∷ xs) (y ∷ ys) [] p q = absurd (true≢false (sym q))
before_trans (x ∷ xs) (y ∷ ys) (z ∷ zs) p q = go (before_trans xs ys zs) (before_yes x y xs ys p) (before_yes y z ys zs q)
  where
    go : (before xs ys ≡ true → before ys zs ≡ true → before xs zs ≡ true) → (x < y) ⊎ ((x ≡ y) × (before xs ys ≡ true)) → (y < z) ⊎ ((y ≡ z) × (before ys zs ≡ true)) → before (x ∷ xs) (z ∷ zs) ≡ true
    go ih (inl a) (inl b) = before_less x z xs zs (omega arith)
    go ih (inl a) (inr b) = before_less x z xs zs (omega (arith, b.0))
    go ih (inr a) (inl b) = before_less x z xs zs (omega (arith, a.0))
    go ih (inr a) (inr b) = rw (before_equal x z xs zs (omega (arith, a.0, b.0))) (ih a.1 b.1)

-- Of two lists of one length one goes before the other, or they are the same.
abbrev Compared : List ℕ → List ℕ → Type 0
Compared xs ys = (before xs ys ≡ true) ⊎ ((before ys xs ≡ true) ⊎ (xs ≡ ys))

compared : (xs ys : List ℕ) → length xs ≡ length ys → Compared xs ys
compared [] [] e = inr (inr refl)
compared [] (y ∷ ys) e = absurd (omega (arith, e))
compared (x ∷ xs) [] e = absurd (omega (arith, e))
compared (x ∷ xs) (y ∷ ys) e = go (eqb_cases x y) (test (ltb x y)) (compared xs ys (omega (arith, e)))
  where
    go : EqCase x y → (ltb x y ≡ true) ⊎ (ltb x y ≡ false) → Compared xs ys → Compared (x ∷ xs) (y ∷ ys)
    go (inl q) l (inl c) = inl (rw (before_equal x y xs ys q.1) c)
    go (inl q) l (inr (inl c)) = inr (inl (rw (before_equal y x ys xs (sym q.1)) c))
    go (inl q) l (inr (inr c)) = inr (inr (rw (q.1, c)))
    go (inr q) (inl l) c = inl (before_less x y xs ys (ltb-true x y l))
    go (inr q) (inr l) c = inr (inl (before_less y x ys xs (let h = ltb-false x y l in let n = q.1 in omega arith)))

-- ---- the key of an order: rank, due tick, ticket
pub precedes_in_order : PrecedesInOrder
unfolding precedes key_at
precedes_in_order k =
    record {
      irreflexive = λ a. before_self (key_at k a);
      transitive = λ a b c p q. before_trans (key_at k a) (key_at k b) (key_at k c) p q;
      total = λ a b other. go a b other (compared (key_at k a) (key_at k b) refl);
    }
  where
    go : (a b : View) → a.ticket ≢ b.ticket → Compared (key_at k a) (key_at k b) → (precedes k a b ≡ true) ⊎ (precedes k b a ≡ true)
    go a b other (inl c) = inl c
    go a b other (inr (inl c)) = inr c
    go a b other (inr (inr c)) = absurd (other (ap (λ l. get_or l 2 0) c))

-- a goes no later than b at station k
pub record Leads (k : ℕ) (a b : View) : Type 0 where
  pub by_rank : at 0 a.ranks k ≤ at 0 b.ranks k
  pub by_due : at 0 b.ranks k ≡ at 0 a.ranks k → a.due ≤ b.due
  pub by_ticket : at 0 b.ranks k ≡ at 0 a.ranks k → b.due ≡ a.due → a.ticket ≤ b.ticket

pub leads : (k : ℕ) (a b : View) → precedes k b a ≡ false → Leads k a b
unfolding precedes key_at
leads k a b e =
    let ranks = before_no (at 0 b.ranks k) (at 0 a.ranks k) (b.due ∷ b.ticket ∷ []) (a.due ∷ a.ticket ∷ []) e in
    let dues : at 0 b.ranks k ≡ at 0 a.ranks k → (a.due ≤ b.due) × (b.due ≡ a.due → before (b.ticket ∷ []) (a.ticket ∷ []) ≡ false) =
    λ r. before_no b.due a.due (b.ticket ∷ []) (a.ticket ∷ []) (ranks.1 r) in
    record { by_rank = ranks.0; by_due = λ r. (dues r).0; by_ticket = λ r d. (before_no b.ticket a.ticket [] [] ((dues r).1 d)).0 }
