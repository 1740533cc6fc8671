-- The clause on tickets, as a loop that keeps the last ticket makes it: each is above the one before it, the first above 0.
use mathlib.Core.Path.{◌≡◌, refl, sym, ap, ◌∙◌}
use mathlib.Core.Bool.{Bool, true, false, ◌&&◌, ◌||◌}
use mathlib.Core.List.{List, [], ◌∷◌, ◌++◌, map}
use Prim.Native.Nat.{ℕ, ◌+◌, ◌*◌, ◌<◌}
use native.Mathlib.Omega.{arith}
use lib.Dec.{leb, ltb}
use borrow.Author.Tests.{ltb-true, le-leb}
use Rattle.model.specs.declared.Order.{Order}
use Rattle.model.specs.Lists.{is_zero, all, upward}
use Rattle.model.specs.Bytes.{word}
use Rattle.model.specs.State.{State}
use Rattle.model.specs.Layout.{next_at, records_at, record_size, ticket_at, record_part}
use Rattle.model.specs.Image.{live_count, order_of, decode}
use Rattle.model.specs.Soundness.{rising, tickets_in_order}
use Rattle.lists.proofs.Fills.{upward-more, upward-same}
use Rattle.lists.proofs.Tests.{and_assoc, and_false, either, all_more, or_all, upward-map}
use Rattle.soundness.proofs.Parts.{word_part}

-- Each number above the one before it, the first above a.
unfoldable pub rises : ℕ → List ℕ → Bool
rises a [] = true
rises a (t ∷ l) = ltb a t && rises t l

unfoldable pub last_of : ℕ → List ℕ → ℕ
last_of a [] = a
last_of a (t ∷ l) = last_of t l

rises_more : (a : ℕ) (l : List ℕ) (t : ℕ) → rises a (l ++ (t ∷ [])) ≡ (rises a l && ltb (last_of a l) t)
unfolding rises last_of
rises_more a [] t = either (λ b. (b && true) ≡ b) (ltb a t) (λ e. refl) (λ e. refl)
rises_more a (x ∷ l) t = rw (rises_more x l t) (sym (and_assoc (ltb a x) (rises x l) (ltb (last_of x l) t)))

last_more : (a : ℕ) (l : List ℕ) (t : ℕ) → last_of a (l ++ (t ∷ [])) ≡ t
unfolding last_of
last_more a [] t = refl
last_more a (x ∷ l) t = last_more x l t

rising_rises : (a : ℕ) (l : List ℕ) → rising (a ∷ l) ≡ rises a l
unfolding rising rises
rising_rises a [] = refl
rising_rises a (t ∷ l) = rw (rising_rises t l)

-- What is above another number is at least 1.
at_least_one : (a : ℕ) (l : List ℕ) → (all (leb 1) l && rises a l) ≡ rises a l
unfolding all rises
at_least_one a [] = refl
at_least_one a (t ∷ l) =
    either (λ b. (leb 1 t && all (leb 1) l && (b && rises t l)) ≡ (b && rises t l)) (ltb a t)
    (λ e. let low : a < t = ltb-true a t e in rw (le-leb 1 t (omega arith)) (at_least_one t l))
    (λ e. and_false (leb 1 t && all (leb 1) l))

rises_first : (l : List ℕ) → (all (leb 1) l && rising l) ≡ rises 0 l
unfolding all rising rises
rises_first [] = refl
rises_first (t ∷ l) = rw (rising_rises t l, and_assoc, at_least_one t l)

-- The clause of the tickets l, where the next ticket is given.
unfoldable pub in_order : ℕ → List ℕ → Bool
in_order next l = rises 0 l && all (λ t. is_zero next || ltb t next) l

order_more : (next : ℕ) (l : List ℕ) (t : ℕ) → in_order next (l ++ (t ∷ [])) ≡ (in_order next l && ltb (last_of 0 l) t && (is_zero next || ltb t next))
unfolding in_order
order_more next l t =
    rw (rises_more 0 l t, all_more (λ x. is_zero next || ltb x next) l t)
    (swap (rises 0 l) (ltb (last_of 0 l) t) (all (λ x. is_zero next || ltb x next) l) (is_zero next || ltb t next))
  where
    swap : (r x b y : Bool) → (r && x && (b && y)) ≡ (r && b && x && y)
    swap true true true y = refl
    swap true true false y = refl
    swap true false true y = refl
    swap true false false y = refl
    swap false x b y = refl

order_all : (s : State) → in_order s.next (map (λ (o : Order). o.ticket) s.orders) ≡ tickets_in_order s
unfolding tickets_in_order in_order
order_all s =
    let given = map (λ (o : Order). o.ticket) s.orders in
    sym (rw (rises_first given, or_all (is_zero s.next) (λ t. ltb t s.next) given))

-- The ticket of the record at place k, where its bytes stand; those of the first i records.
abbrev ticket_of : List ℕ → ℕ → ℕ
ticket_of image k = word image (records_at + record_size * k + ticket_at)

abbrev pub tickets : List ℕ → ℕ → List ℕ
tickets image i = upward 0 i (ticket_of image)

tickets_decoded : (image : List ℕ) → tickets image (live_count image) ≡ map (λ (o : Order). o.ticket) (decode image).orders
unfolding decode order_of
tickets_decoded image =
    sym
    (upward-map (λ (o : Order). o.ticket) 0 (live_count image) (λ k. order_of (record_part image k))
    ∙ upward-same (live_count image) (λ k. (order_of (record_part image k)).ticket) (ticket_of image)
    (λ k h. word_part image (records_at + record_size * k) record_size ticket_at (omega arith)))

-- What a loop over the records keeps: the clause of the first i tickets, and the last of them, 0 where there is none.
pub record Passed (image : List ℕ) (next i : ℕ) (holds : Bool) (last : ℕ) : Type 0 where
  pub clause : holds ≡ in_order next (tickets image i)
  pub final : last ≡ last_of 0 (tickets image i)

pub passed_none : (image : List ℕ) (next : ℕ) → Passed image next 0 true 0
unfolding in_order rises last_of all upward
passed_none image next = record { clause = refl; final = refl }

pub passed_more : {image : List ℕ} {next i last : ℕ} {holds : Bool} (t : ℕ) → Passed image next i holds last → t ≡ word image (records_at + record_size * i + ticket_at) → Passed image next (i + 1) (holds && (ltb last t && (is_zero next || ltb t next))) t
passed_more {image} {next} {i} {last} {holds} t p e =
    let more : tickets image (i + 1) ≡ tickets image i ++ (t ∷ []) = rw e (upward-more i (ticket_of image)) in
    record {
      clause = rw (← and_assoc, p.clause, p.final, more) (sym (order_more next (tickets image i) t));
      final = rw more (sym (last_more 0 (tickets image i) t));
    }

pub passed_all : (image : List ℕ) (holds : Bool) (last : ℕ) → Passed image (word image next_at) (live_count image) holds last → holds ≡ tickets_in_order (decode image)
unfolding decode
passed_all image holds last p = p.clause ∙ ap (in_order (word image next_at)) (tickets_decoded image) ∙ order_all (decode image)
