-- The interference sets of a history: the costs of those entries whose tickets are in a list, when an entry joins and when entries move on.
use mathlib.Core.Path.{◌≡◌, refl, ap, sym, ◌∙◌, subst}
use mathlib.Core.Logic.{◌⊎◌, inl, inr}
use mathlib.Core.Bool.{Bool, true, false}
use mathlib.Core.List.Memᴰ
use mathlib.Core.List.{List, [], ◌∷◌, ◌++◌, map, map-append, append-nil}
use Prim.Native.Nat.{ℕ, ◌<◌}
use native.Mathlib.Omega.{arith}
use borrow.Author.Tests.{eq-eqb, ne_eqb}
use Rattle.model.specs.Lists.{any, has, only}
use Rattle.model.specs.declared.Block.{Block}
use Rattle.model.specs.History.{Entry}
use Rattle.lists.proofs.Tests.{only-append}
use Rattle.schedule.specs.Valid.{◌∈◌, RisingBy}
use Rattle.schedule.proofs.Laws.{test, only_yes, only_no, only_in}

-- ---- a number in a list
has_first : (l : List ℕ) (x : ℕ) → has (x ∷ l) x ≡ true
unfolding has any
has_first l x = rw (eq-eqb x x refl)

has_other : (l : List ℕ) (x y : ℕ) → (x ≡ y → ⊥) → has (y ∷ l) x ≡ has l x
unfolding has any
has_other l x y h = rw (ne_eqb x y h)

has_none : (l : List ℕ) (x : ℕ) → ((y : ℕ) → y ∈ l → x ≡ y → ⊥) → has l x ≡ false
unfolding has any
has_none [] x h = refl
has_none (y ∷ ys) x h = rw (ne_eqb x y (h y (Memᴰ.head refl))) (has_none ys x (λ z m. h z (Memᴰ.tail m)))

-- ---- two tests that agree on a list pick the same entries
only_alike : {A : Type 0} (p q : A → Bool) (l : List A) → ((a : A) → a ∈ l → p a ≡ q a) → only p l ≡ only q l
unfolding only
only_alike p q [] h = refl
only_alike {A} p q (x ∷ xs) h = rw (h x (Memᴰ.head refl), only_alike p q xs (λ a m. h a (Memᴰ.tail m)))

-- ---- the costs of those entries whose tickets are in a list
abbrev pub costs_of : Entry → List ℕ
costs_of e = e.block.costs

abbrev is_in : List ℕ → Entry → Bool
is_in tickets e = has tickets e.ticket

abbrev pub costs_in : List ℕ → List Entry → List (List ℕ)
costs_in tickets l = map costs_of (only (is_in tickets) l)

-- entries that change otherwise than in ticket and block
pub costs_moved : (f : Entry → Entry) → ((e : Entry) → (f e).ticket ≡ e.ticket) → ((e : Entry) → (f e).block ≡ e.block) → (tickets : List ℕ) (l : List Entry) → costs_in tickets (map f l) ≡ costs_in tickets l
unfolding only
costs_moved f same_ticket same_block tickets [] = refl
costs_moved f same_ticket same_block tickets (x ∷ xs) = go (costs_moved f same_ticket same_block tickets xs) (test (is_in tickets x))
  where
    go : costs_in tickets (map f xs) ≡ costs_in tickets xs → (is_in tickets x ≡ true) ⊎ (is_in tickets x ≡ false) → costs_in tickets (map f (x ∷ xs)) ≡ costs_in tickets (x ∷ xs)
    go ih (inl e) = rw (same_ticket x, e, ih) (ap (λ (b : Block). b.costs ∷ costs_in tickets xs) (same_block x))
    go ih (inr e) = rw (same_ticket x, e) ih

-- a ticket that no entry has adds nothing
costs_other : (t : ℕ) (tickets : List ℕ) (l : List Entry) → ((e : Entry) → e ∈ l → e.ticket ≡ t → ⊥) → costs_in (t ∷ tickets) l ≡ costs_in tickets l
costs_other t tickets l h = ap (map costs_of) (only_alike (is_in (t ∷ tickets)) (is_in tickets) l (λ e m. has_other tickets e.ticket t (h e m)))

module _ (new : Entry) (l : List Entry) (later : (e : Entry) → e ∈ l → e.ticket < new.ticket) where
  -- an entry at the end, whose ticket is in the list of tickets: its costs come last
  pub costs_joined : (tickets : List ℕ) → costs_in (new.ticket ∷ tickets) (l ++ (new ∷ [])) ≡ costs_in tickets l ++ (costs_of new ∷ [])
  unfolding only
  costs_joined tickets =
      ap (map costs_of) (only-append (is_in (new.ticket ∷ tickets)) l (new ∷ []))
      ∙ map-append costs_of (only (is_in (new.ticket ∷ tickets)) l) (only (is_in (new.ticket ∷ tickets)) (new ∷ []))
      ∙ ap (λ (x : List (List ℕ)). x ++ map costs_of (only (is_in (new.ticket ∷ tickets)) (new ∷ []))) (costs_other new.ticket tickets l (λ e m q. omega (arith, later e m)))
      ∙ ap (λ (x : List Entry). costs_in tickets l ++ map costs_of x) (only_yes (is_in (new.ticket ∷ tickets)) new [] (has_first tickets new.ticket))

  -- an entry at the end, whose ticket is not in the list of tickets: nothing changes
  pub costs_apart : (tickets : List ℕ) → ((t : ℕ) → t ∈ tickets → t < new.ticket) → costs_in tickets (l ++ (new ∷ [])) ≡ costs_in tickets l
  unfolding only
  costs_apart tickets h =
      let none_here : only (is_in tickets) (new ∷ []) ≡ [] = only_no (is_in tickets) new [] (has_none tickets new.ticket (λ y m e. omega (arith, h y m))) in
      ap (map costs_of) (only-append (is_in tickets) l (new ∷ []) ∙ ap (λ (x : List Entry). only (is_in tickets) l ++ x) none_here ∙ append-nil (only (is_in tickets) l))

-- the tickets of those entries that pass a test give just their costs
pub costs_own : (p : Entry → Bool) (l : List Entry) → RisingBy (λ (e : Entry). e.ticket) l → costs_in (map (λ (e : Entry). e.ticket) (only p l)) l ≡ map costs_of (only p l)
unfolding only
costs_own p [] r = refl
costs_own p (x ∷ xs) r = go (costs_own p xs r.1) (test (p x))
  where
    tickets : List ℕ
    tickets = map (λ (e : Entry). e.ticket) (only p xs)

    beyond : (y : ℕ) → y ∈ tickets → x.ticket ≡ y → ⊥
    beyond y m e = let w = Memᴰ.of_map (λ (e : Entry). e.ticket) (only p xs) m in omega (arith, r.0 w.0 (only_in p xs w.1).0, w.2)

    own_costs : List Entry → Type 0
    own_costs ys = costs_in (map (λ (e : Entry). e.ticket) ys) (x ∷ xs) ≡ map costs_of ys

    go : costs_in tickets xs ≡ map costs_of (only p xs) → (p x ≡ true) ⊎ (p x ≡ false) → costs_in (map (λ (e : Entry). e.ticket) (only p (x ∷ xs))) (x ∷ xs) ≡ map costs_of (only p (x ∷ xs))
    go ih (inl e) =
        subst own_costs (sym (only_yes p x xs e))
        (rw (has_first tickets x.ticket) (ap {B = List (List ℕ)} (λ l. costs_of x ∷ l) (costs_other x.ticket tickets xs (λ y m q. omega (arith, r.0 y m)) ∙ ih)))
    go ih (inr e) = subst own_costs (sym (only_no p x xs e)) (rw (has_none tickets x.ticket beyond) ih)
