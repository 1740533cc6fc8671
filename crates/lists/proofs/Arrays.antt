-- Arrays that the library's methods make, as lists: `map` of an array, and `from_fn`. Each has a law for closures that capture nothing, and one for those whose calls
-- leave what they captured as it was.
use Rattle.std.proofs.Common.{◌≡◌, refl, sym, ap, ◌∙◌, ℕ, zero, suc, ◌+◌, ◌<◌, ◌≤◌, inl, inr, List, [], ◌∷◌, map, length, get_or, arith}
use native.Mathlib.Nat.{eq-or-lt_of_le}
use lib.ListN.{length-map}
use lib.Seq.{ext_get_or}
use denote.Param.Members.{Mut, Called}
use Rattle.std.specs.Array.{MapsFrom, IsMapOf, IsFromFnResultFrom, IsFromFnResult}
use Rattle.model.specs.Lists.{upward}
use Rattle.lists.proofs.Fills.{length-upward, get_d_upward}

get_d_map : {A B : Type 0} (f : A → B) (d : A) (l : List A) (i : ℕ) → get_or (map f l) i (f d) ≡ f (get_or l i d)
get_d_map f d [] i = refl
get_d_map f d (x ∷ l) zero = refl
get_d_map f d (x ∷ l) (suc i) = get_d_map f d l i

-- `map` with a closure that gives f of each entry.
module _ {F A B : Type 0} {g : Mut F (A × Unit {0}) B} (f : A → B) where
  pub mapped : {h : F} {xs : List A} {ys : List B} {n : ℕ} → length xs ≡ n → IsMapOf g h xs ys n → ((p : F) (x : A) (y : B) (q : F) → Called g p (x, tt) y q → y ≡ f x) → ys ≡ map f xs
  mapped {xs = []} {ys = []} long is each = refl
  mapped {xs = []} {ys = y ∷ ys} long is each = absurd (omega (arith, is.long))
  mapped {xs = d ∷ l} {ys = ys} long is each =
      let xs = d ∷ l in
      ext_get_or (f d) ys (map f xs) (is.long ∙ sym (length-map xs f ∙ long))
      (λ i h.
      let c = is.at i d (f d) (omega (arith, is.long)) in
      each c.0 (get_or xs i d) (get_or ys i (f d)) c.1 c.2 ∙ sym (get_d_map f d xs i))

-- `from_fn` with a closure that gives f of each place.
module _ {F B : Type 0} {g : Mut F (ℕ × Unit {0}) B} (f : ℕ → B) where
  pub filled : {h : F} {ys : List B} {n : ℕ} → IsFromFnResult g h ys n → ((p : F) (i : ℕ) (y : B) (q : F) → i < n → Called g p (i, tt) y q → y ≡ f i) → ys ≡ upward 0 n f
  filled {ys = ys} {n = n} is each =
      ext_get_or (f 0) ys (upward 0 n f) (is.long ∙ sym (length-upward 0 n f))
      (λ i h.
      let low : i < n = omega (arith, is.long) in
      let c = is.at i (f 0) low in
      each c.0 i (get_or ys i (f 0)) c.1 low c.2 ∙ sym (get_d_upward n f i (f 0) low))

-- The same with a closure h whose calls leave what it captured as it was.
module _ {F A B : Type 0} {g : Mut F (A × Unit {0}) B} (f : A → B) {h : F} (same : (x : A) (y : B) (q : F) → Called g h (x, tt) y q → (y ≡ f x) × (q ≡ h)) where
  maps_at : (xs : List A) (ys : List B) (k m : ℕ) → MapsFrom g h xs ys k m → (i : ℕ) (d : A) → k ≤ i → i < k + m → get_or ys i (f d) ≡ f (get_or xs i d)
  maps_at xs ys k zero r i d low high = absurd (omega arith)
  maps_at xs ys k (suc m) r i d low high =
      let s = same r.1 r.2 r.0 r.5 in
      elim (eq-or-lt_of_le low) [ inl e ↦ rw (← e) (r.4.1 (f d) ∙ s.0 ∙ ap f (sym (r.3.1 d))) | inr e ↦ maps_at xs ys (k + 1) m (rw s.1 at r.6) i d (omega arith) (omega arith) ]

  pub mapped_same : {xs : List A} {ys : List B} {n : ℕ} → length xs ≡ n → IsMapOf g h xs ys n → ys ≡ map f xs
  mapped_same {xs = []} {ys = []} long is = refl
  mapped_same {xs = []} {ys = y ∷ ys} long is = absurd (omega (arith, is.long))
  mapped_same {xs = d ∷ l} {ys = ys} {n = n} long is =
      let xs = d ∷ l in
      ext_get_or (f d) ys (map f xs) (is.long ∙ sym (length-map xs f ∙ long))
      (λ i low. maps_at xs ys 0 n is.each i d (omega arith) (omega (arith, is.long)) ∙ sym (get_d_map f d xs i))

module _ {F B : Type 0} {g : Mut F (ℕ × Unit {0}) B} (f : ℕ → B) {h : F} {n : ℕ} (same : (i : ℕ) (y : B) (q : F) → i < n → Called g h (i, tt) y q → (y ≡ f i) × (q ≡ h)) where
  fills_at : (ys : List B) (k m : ℕ) → k + m ≡ n → IsFromFnResultFrom g h ys k m → (i : ℕ) (d : B) → k ≤ i → i < n → get_or ys i d ≡ f i
  fills_at ys k zero e r i d low high = absurd (omega arith)
  fills_at ys k (suc m) e r i d low high =
      let s = same k r.1 r.0 (omega arith) r.3 in
      elim (eq-or-lt_of_le low) [ inl t ↦ rw (← t) (r.2.1 d ∙ s.0) | inr t ↦ fills_at ys (k + 1) m (omega arith) (rw s.1 at r.4) i d (omega arith) high ]

  pub filled_same : {ys : List B} → IsFromFnResult g h ys n → ys ≡ upward 0 n f
  filled_same {ys} is =
      ext_get_or (f 0) ys (upward 0 n f) (is.long ∙ sym (length-upward 0 n f))
      (λ i l.
      let low : i < n = omega (arith, is.long) in
      fills_at ys 0 n (omega arith) is.each i (f 0) (omega arith) low ∙ sym (get_d_upward n f i (f 0) low))
