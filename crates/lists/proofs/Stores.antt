-- Stores one after the other make one store of both, so that a writer that calls writers is proved by one line a call.
use mathlib.Core.Path.{◌≡◌, refl, sym, ap, ◌∙◌}
use mathlib.Core.List.{List, [], ◌∷◌, ◌++◌, append-nil, append_assoc}
use Prim.Native.Nat.{ℕ, suc, ◌+◌, ◌-◌, ◌≤◌, ◌<◌}
use native.Mathlib.Nat.{add-zero}
use native.Mathlib.Numerals.{add-one}
use native.Mathlib.Omega.{arith}
use lib.ListN.{length, get_or, set, take, drop, replicate, length-append, length-replicate, drop_of_length-le, replicate-append-replicate}
use lib.Seq.{sets, sets-eq, length-sets, take-suc, take_all, take_at, drop_at, drop-drop, length-take-le}
use Rattle.model.specs.Lists.{part}
use Rattle.lists.specs.Stored.{Stored, Put}

sets-append : (l vs ws : List ℕ) (i : ℕ) → sets (sets l i vs) (i + length vs) ws ≡ sets l i (vs ++ ws)
sets-append l [] ws i = rw add-zero
sets-append l (v ∷ vs) ws i =
    let e : i + suc (length vs) ≡ suc i + length vs = omega arith in
    rw e (sets-append (set l i v) vs ws (suc i))

-- Nothing stored; one number; two; four.
pub stored_none : (l : List ℕ) (i : ℕ) → Stored l i [] l
stored_none l i = record { is = refl }

pub stored_one : (l : List ℕ) (i a : ℕ) → Stored l i (a ∷ []) (set l i a)
stored_one l i a = record { is = refl }

pub stored_two : (l : List ℕ) (i a b : ℕ) → Stored l i (a ∷ b ∷ []) (set (set l i a) (i + 1) b)
stored_two l i a b = record { is = rw add-one }

pub stored_four : (l : List ℕ) (i a b c d : ℕ) → Stored l i (a ∷ b ∷ c ∷ d ∷ []) (set (set (set (set l i a) (i + 1) b) (i + 2) c) (i + 3) d)
stored_four l i a b c d =
    let e1 : i + 1 ≡ suc i = omega arith in
    let e2 : i + 2 ≡ suc (suc i) = omega arith in
    let e3 : i + 3 ≡ suc (suc (suc i)) = omega arith in
    record { is = rw (e1, e2, e3) }

-- A store, and a second one right after it.
pub stored_then : {l m n : List ℕ} {i j : ℕ} {vs ws : List ℕ} → Stored l i vs m → j ≡ i + length vs → Stored m j ws n → Stored l i (vs ++ ws) n
stored_then {l} {m} {n} {i} {j} {vs} {ws} p e q = record { is = q.is ∙ rw (p.is, e) (sets-append l vs ws i) }

-- The same store in other words.
pub stored_same : {l vs ws m : List ℕ} {i : ℕ} → Stored l i vs m → vs ≡ ws → Stored l i ws m
stored_same {l} {vs} {ws} {m} {i} p e = record { is = p.is ∙ ap (λ (xs : List ℕ). sets l i xs) e }

-- A store over the whole list.
pub stored_all : {l vs m : List ℕ} → Stored l 0 vs m → length l ≡ length vs → m ≡ vs
stored_all {l} {vs} {m} w h =
    let room : 0 + length vs ≤ length l = omega arith in
    let whole : length l ≤ 0 + length vs = omega arith in
    w.is ∙ sets-eq vs l 0 room ∙ rw (drop_of_length-le l whole) (append-nil vs)

-- A store over a part of the list.
pub stored_over : (x y w : List ℕ) {v m : List ℕ} {i : ℕ} → Stored (x ++ (y ++ w)) i v m → i ≡ length x → length y ≡ length v → m ≡ x ++ (v ++ w)
stored_over x y w {v} {m} {i} s e h =
    let l = x ++ (y ++ w) in
    let room : i + length v ≤ length l = simp length-append (omega arith) in
    let past : drop (i + length v) l ≡ w = rw (← append_assoc x y w) (drop_at (x ++ y) w (i + length v) (simp length-append (omega arith))) in
    s.is ∙ sets-eq v l i room ∙ rw (past, take_at x (y ++ w) i (sym e)) (append_assoc x v w)

-- What lies past a store is as it was.
pub stored_past : {l v m : List ℕ} {i : ℕ} → Stored l i v m → i + length v ≤ length l → drop (i + length v) m ≡ drop (i + length v) l
stored_past {l} {v} {m} {i} s h =
    let long : length (take i l ++ v) ≡ i + length v = rw (length-append, length-take-le i l (omega arith)) in
    ap (drop (i + length v)) (s.is ∙ sets-eq v l i h) ∙ drop_at (take i l ++ v) (drop (i + length v) l) (i + length v) long

-- So is a part of the list that begins there or later.
pub stored_part : {l v m : List ℕ} {i : ℕ} → Stored l i v m → i + length v ≤ length l → (at n : ℕ) → i + length v ≤ at → part m at n ≡ part l at n
stored_part {l} {v} {m} {i} s h at n past =
    let end = i + length v in
    let on : end + (at - end) ≡ at = omega arith in
    ap (take n)
    (ap (λ (k : ℕ). drop k m) (sym on)
    ∙ sym (drop-drop (at - end) end m)
    ∙ ap (drop (at - end)) (stored_past s h)
    ∙ drop-drop (at - end) end l
    ∙ ap (λ (k : ℕ). drop k l) on)

pub stored_length : {l vs m : List ℕ} {i : ℕ} → Stored l i vs m → length m ≡ length l
stored_length {l} {vs} {m} {i} w = ap length w.is ∙ length-sets l i vs

-- One more of the same number: a fill.
pub fill_more : {l m : List ℕ} {i j : ℕ} (n a : ℕ) → Stored l i (replicate n a) m → j ≡ i + n → Stored l i (replicate (n + 1) a) (set m j a)
fill_more {l} {m} {i} {j} n a p e =
    rw (← replicate-append-replicate n 1 a) (stored_then p (rw (length-replicate n a) e) (stored_one m j a))

-- The same with the place after it.
pub put_none : (l : List ℕ) (i : ℕ) → Put l i [] i l
put_none l i = record { place = sym (add-zero i); bytes = stored_none l i }

pub put_then : {l m n : List ℕ} {i j k : ℕ} {vs ws : List ℕ} → Put l i vs j m → Put m j ws k n → Put l i (vs ++ ws) k n
put_then {l} {m} {n} {i} {j} {k} {vs} {ws} p q =
    record { place = omega (arith, p.place, q.place, length-append vs ws); bytes = stored_then p.bytes p.place q.bytes }

pub put_length : {l m : List ℕ} {i k : ℕ} {vs : List ℕ} → Put l i vs k m → length m ≡ length l
put_length p = stored_length p.bytes

-- A copy, one number more, and at its end.
pub put_more : {l m : List ℕ} {i : ℕ} (n : ℕ) (vs : List ℕ) → Put l i (take n vs) (i + n) m → n < length vs → Put l i (take (n + 1) vs) (i + (n + 1)) (set m (i + n) (get_or vs n 0))
put_more {l} {m} {i} n vs p h =
    let q : Put m (i + n) (get_or vs n 0 ∷ []) (i + (n + 1)) (set m (i + n) (get_or vs n 0)) = record { place = omega arith; bytes = stored_one m (i + n) (get_or vs n 0) } in
    let e : take (n + 1) vs ≡ take n vs ++ (get_or vs n 0 ∷ []) = rw (add-one, take-suc vs n 0) in
    rw e (put_then p q)

pub put_end : {l m : List ℕ} {i : ℕ} (n : ℕ) (vs : List ℕ) → Put l i (take n vs) (i + n) m → length vs ≤ n → Put l i vs (i + n) m
put_end {l} {m} {i} n vs p h = rw (take_all n vs h) at p
