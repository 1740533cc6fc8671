-- A use of what is judged by the history, at 2 stations and at 8: an order that is taken, one that is late, one that would delay a live order; and what the next
-- call never returns. Quotes and offers are judged alike.
use mathlib.Core.Path.{◌≡◌, refl, sym, ap, subst, ◌∙◌}
use mathlib.Core.Logic.{◌⊎◌, ◌≢◌, inl, inr}
use mathlib.Core.Bool.{true}
use mathlib.Core.List.Memᴰ
use mathlib.Core.List.{List, [], ◌∷◌}
use Prim.Native.Nat.{ℕ, ◌+◌, ◌≤◌, ◌<◌}
use native.Mathlib.Omega.{arith}
use lib.ListN.{length, get_or}
use borrow.Author.Tests.{leb-true}
use lib.IntN.{ℤ}
use lib.Signed.{mag}
use Rattle.model.specs.declared.Block.{Block}
use Rattle.model.specs.Limits.{last_tick}
use Rattle.model.specs.Lists.{at, part}
use Rattle.model.specs.Bytes.{word, four_bytes, bits32}
use Rattle.model.specs.Layout.{clock_at, block_size, reply_tick_at, reply_margin_at}
use Rattle.model.specs.Soundness.{costs_in_range, zero_beyond}
use Rattle.model.specs.Admission.{block_of, due_of}
use Rattle.model.specs.Calls.{Result, quote_call, offer_call, opening, offering, advancing}
use Rattle.model.specs.History.{Entry, History, live_orders, entry_bound}
use Rattle.model.specs.Runs.{started, outcome, after_call, after_all, AllAllowed}
use Rattle.model.specs.Table.{read_row}
use Rattle.model.specs.Cases.{order, X, Y}
use Rattle.schedule.specs.Valid.{◌∈◌}
use Rattle.image_laws.proofs.Clauses.{zero_beyond_lem, costs_say}
use Rattle.claims.specs.ByHistory.{tried, arriving, OnTime, Late, margin_of, Considered, Judged, InStep}
use Rattle.claims.proofs.Claims.{claims}
use Rattle.uses.specs.DefiniteLists.{some_image, some_reply, opened, whole, one_calls, one, Z, long_calls, long, P, Q}
use Rattle.uses.proofs.DefiniteLists.{entry}
use Rattle.uses.proofs.Words.{Figure, of_two, smaller, smaller_of_two}

-- ---- what is taken from a judgement, of any history with one live order and any block that would be the second; `Given` is what is asked before the block
module _ (Given : Type 0) (h : History) (b : Block) where
  abbrev costs : List ℕ
  costs = b.costs

  -- With the block accepted: the order that is live, and the arrival.
  abbrev with_it : ℕ → Entry
  with_it i = get_or (live_orders (tried h b)) i (arriving h b)

  abbrev TheTwo : Type 0
  TheTwo = live_orders (tried h b) ≡ with_it 0 ∷ with_it 1 ∷ []

  -- What was asked before 11, of the costs at the first station and at the last, and beyond it.
  abbrev Asked : Type 0
  Asked =
      (length some_reply ≡ 16) × Given × (1 ≤ at 0 costs 1) × (at 0 costs 1 ≤ 6000) × (1 ≤ at 0 costs h.n) × (at 0 costs h.n ≤ 6000)
      × (at 0 costs (h.n + 1) ≡ 0) × (at 0 b.ranks (h.n + 1) ≡ 0) × (b.due_in ≤ 60000) × (due_of h.clock b ≤ 4000000000)
      × (length (live_orders h) < 32)

  asked : 1 ≤ h.n → Considered Given h b some_reply → Asked
  asked some c =
      (c.reply_whole, c.given, c.cost_low 1 (omega arith) some, c.cost_high 1 (omega arith) some, c.cost_low h.n some (omega arith), c.cost_high h.n some (omega arith), c.cost_beyond (h.n + 1) (omega arith), c.rank_beyond (h.n + 1) (omega arith), c.due_in, c.due_tick, c.room)

  -- And the way back, by computed tests.
  pub considered : Given → h.n ≤ length costs → costs_in_range h.n costs ≡ true → zero_beyond h.n costs ≡ true → zero_beyond h.n b.ranks ≡ true → b.due_in ≤ 60000 → due_of h.clock b ≤ last_tick → length (live_orders h) < 32 → Considered Given h b some_reply
  considered given long range zero_costs zero_ranks due_in due_tick room =
      let in_range = (costs_say h.n costs long).tells range in
      record {
        reply_whole = refl;
        given = given;
        cost_low = λ k low high. (in_range k low high).0;
        cost_high = λ k low high. (in_range k low high).1;
        cost_beyond = (zero_beyond_lem h.n costs).tells zero_costs;
        rank_beyond = (zero_beyond_lem h.n b.ranks).tells zero_ranks;
        due_in = due_in;
        due_tick = due_tick;
        room = room;
      }

  module _ (two : TheTwo) (r : Result) (j : Judged Given h b some_reply r) where
    abbrev then : History
    then = tried h b

    first_in : with_it 0 ∈ live_orders then
    first_in = rw two (Memᴰ.head refl)

    second_in : with_it 1 ∈ live_orders then
    second_in = rw two (Memᴰ.tail (Memᴰ.head refl))

    of_both : (P : Entry → Type 0) → P (with_it 0) → P (with_it 1) → (e : Entry) → e ∈ live_orders then → P e
    of_both P p q e m = of_two P (with_it 0) (with_it 1) p q e (subst (λ (l : List Entry). e ∈ l) two m)

    -- The margin given: the smaller of the two, as bytes, and that it is a signed number of 32 bits.
    abbrev least : ℤ
    least = smaller (margin_of then (with_it 0)) (margin_of then (with_it 1))

    margin : (r.number ≡ 0) ⊎ (r.number ≡ 11) ⊎ (r.number ≡ 12) → (part r.reply reply_margin_at 4 ≡ four_bytes (bits32 least)) × (mag least < 2147483648)
    margin decided =
        let m = j.margin decided in
        let is = smaller_of_two (margin_of then) (with_it 0) (with_it 1) m.given m.order (subst (λ (l : List Entry). m.order ∈ l) two m.among) m.attained (λ e q. m.least e (subst (λ (l : List Entry). e ∈ l) (sym two) q)) in
        (m.written ∙ ap (λ (z : ℤ). four_bytes (bits32 z)) is, subst (λ (z : ℤ). mag z < 2147483648) is m.signed32)

    -- 0: both on time, the tick, the margin. And back.
    pub taken : 1 ≤ h.n → r.number ≡ 0 → Asked × (OnTime then (with_it 0) × OnTime then (with_it 1)) × (word r.reply reply_tick_at ≡ entry_bound then (arriving h b)) × (part r.reply reply_margin_at 4 ≡ four_bytes (bits32 least)) × (mag least < 2147483648)
    taken some is =
        let t = j.done.only is in
        let m = margin (inl is) in
        (asked some t.0, (t.1 (with_it 0) first_in, t.1 (with_it 1) second_in), j.tick is, m.0, m.1)

    pub taken_back : Considered Given h b some_reply → OnTime then (with_it 0) → OnTime then (with_it 1) → r.number ≡ 0
    taken_back c p q = j.done.if (c, of_both (OnTime then) p q)

    -- 11: the arrival is late. And back.
    pub late : 1 ≤ h.n → r.number ≡ 11 → Asked × Late then (arriving h b) × (part r.reply reply_margin_at 4 ≡ four_bytes (bits32 least)) × (mag least < 2147483648)
    late some is =
        let t = j.late.only is in
        let m = margin (inr (inl is)) in
        (asked some t.0, t.1, m.0, m.1)

    pub late_back : Considered Given h b some_reply → Late then (arriving h b) → r.number ≡ 11
    late_back c p = j.late.if (c, p)

    -- 12: the arrival is on time, and the other is not, since some live order is not and the second is. And back.
    pub delaying : 1 ≤ h.n → OnTime then (with_it 1) → r.number ≡ 12 → Asked × OnTime then (arriving h b) × Late then (with_it 0) × (part r.reply reply_margin_at 4 ≡ four_bytes (bits32 least)) × (mag least < 2147483648)
    delaying some on_time is =
        let t = j.delaying.only is in
        let m = margin (inr (inr is)) in
        (asked some t.0, t.1, of_both (λ (e : Entry). Late then e → Late then (with_it 0)) (λ l. l) (λ l. absurd (let z : ⊥ = omega (arith, l, on_time) in z)) t.2 t.3 t.4, m.0, m.1)

    pub delaying_back : Considered Given h b some_reply → OnTime then (arriving h b) → Late then (with_it 0) → r.number ≡ 12
    delaying_back c p q = j.delaying.if (c, p, with_it 0, first_in, q)

-- Of a block that is lent.
abbrev Whole : List ℕ → Type 0
Whole block = length block ≡ block_size

abbrev OfBlock : History → List ℕ → Result → Type 0
OfBlock h block r = Judged (Whole block) h (block_of block) some_reply r

-- ---- N = 2: X with due-in 9, and one advance
pub one_allowed : AllAllowed (opened 2) one_calls
unfolding one_calls
one_allowed = (tt, (tt, tt))

pub one_in_step : InStep one
unfolding opened one
one_in_step = claims.by_history 2 (omega arith) (omega arith) some_image refl some_reply refl one_calls one_allowed

-- The image has the history's clock, as bytes and read back.
one_image : Figure 1 × Figure 1
unfolding read_row opened one_calls one X Y Z started after_call outcome after_all
one_image = (ap (λ (image : List ℕ). word image clock_at) one_in_step.image_is, ap (λ s. s.clock) one_in_step.read_back)

-- Y with due-in 7: X has the bound 7 and is due at 9, Y the bound 8, on which it is due.
one_taken : (r : Result) → OfBlock one.history (Y 7 5) r → r.number ≡ 0 → (Figure 16 × Figure 28 × (1 ≤ 1) × (1 ≤ 6000) × (1 ≤ 2) × (2 ≤ 6000) × Figure 0 × Figure 0 × (7 ≤ 60000) × (8 ≤ 4000000000) × (1 < 32)) × ((7 ≤ 9) × (8 ≤ 8)) × (word r.reply reply_tick_at ≡ 8) × (part r.reply reply_margin_at 4 ≡ 0 ∷ 0 ∷ 0 ∷ 0 ∷ []) × (0 < 2147483648)
unfolding read_row opened one_calls one X Y Z started after_call outcome after_all
one_taken r j = taken (Whole (Y 7 5)) one.history (block_of (Y 7 5)) refl r j (omega arith)

one_taken_back : (r : Result) → OfBlock one.history (Y 7 5) r → r.number ≡ 0
unfolding read_row opened one_calls one X Y Z started after_call outcome after_all
one_taken_back r j = taken_back (Whole (Y 7 5)) one.history (block_of (Y 7 5)) refl r j (considered (Whole (Y 7 5)) one.history (block_of (Y 7 5)) refl (leb-true _ _ (refl {a = true})) (refl {a = true}) (refl {a = true}) (refl {a = true}) (leb-true _ _ (refl {a = true})) (leb-true _ _ (refl {a = true})) (leb-true _ _ (refl {a = true}))) (leb-true _ _ (refl {a = true})) (leb-true _ _ (refl {a = true}))

-- Y with due-in 6 is due at 7.
one_late : (r : Result) → OfBlock one.history (Y 6 5) r → r.number ≡ 11 → (Figure 16 × Figure 28 × (1 ≤ 1) × (1 ≤ 6000) × (1 ≤ 2) × (2 ≤ 6000) × Figure 0 × Figure 0 × (6 ≤ 60000) × (7 ≤ 4000000000) × (1 < 32)) × (7 < 8) × (part r.reply reply_margin_at 4 ≡ 255 ∷ 255 ∷ 255 ∷ 255 ∷ []) × (0 < 2147483648)
unfolding read_row opened one_calls one X Y Z started after_call outcome after_all
one_late r j = late (Whole (Y 6 5)) one.history (block_of (Y 6 5)) refl r j (omega arith)

one_late_back : (r : Result) → OfBlock one.history (Y 6 5) r → r.number ≡ 11
unfolding read_row opened one_calls one X Y Z started after_call outcome after_all
one_late_back r j = late_back (Whole (Y 6 5)) one.history (block_of (Y 6 5)) refl r j (considered (Whole (Y 6 5)) one.history (block_of (Y 6 5)) refl (leb-true _ _ (refl {a = true})) (refl {a = true}) (refl {a = true}) (refl {a = true}) (leb-true _ _ (refl {a = true})) (leb-true _ _ (refl {a = true})) (leb-true _ _ (refl {a = true}))) (leb-true _ _ (refl {a = true}))

-- Z has the bound 12 and is due at 101; X would have the bound 11.
one_delaying : (r : Result) → OfBlock one.history Z r → r.number ≡ 12 → (Figure 16 × Figure 28 × (1 ≤ 4) × (4 ≤ 6000) × (1 ≤ 4) × (4 ≤ 6000) × Figure 0 × Figure 0 × (100 ≤ 60000) × (101 ≤ 4000000000) × (1 < 32)) × (12 ≤ 101) × (9 < 11) × (part r.reply reply_margin_at 4 ≡ 254 ∷ 255 ∷ 255 ∷ 255 ∷ []) × (1 < 2147483648)
unfolding read_row opened one_calls one X Y Z started after_call outcome after_all
one_delaying r j = delaying (Whole Z) one.history (block_of Z) refl r j (omega arith) (leb-true _ _ (refl {a = true}))

one_delaying_back : (r : Result) → OfBlock one.history Z r → r.number ≡ 12
unfolding read_row opened one_calls one X Y Z started after_call outcome after_all
one_delaying_back r j = delaying_back (Whole Z) one.history (block_of Z) refl r j (considered (Whole Z) one.history (block_of Z) refl (leb-true _ _ (refl {a = true})) (refl {a = true}) (refl {a = true}) (refl {a = true}) (leb-true _ _ (refl {a = true})) (leb-true _ _ (refl {a = true})) (leb-true _ _ (refl {a = true}))) (leb-true _ _ (refl {a = true})) (leb-true _ _ (refl {a = true}))

-- All of it of quotes and of offers: the calls return 0, 11 and 12.
one_quotes : Figure 0 × Figure 11 × Figure 12
unfolding read_row opened one_calls one X Y Z started after_call outcome after_all
one_quotes =
    let of = one_in_step.quotes in
    (one_taken_back (quote_call one.image (Y 7 5) some_reply) (of (Y 7 5) some_reply), one_late_back (quote_call one.image (Y 6 5) some_reply) (of (Y 6 5) some_reply), one_delaying_back (quote_call one.image Z some_reply) (of Z some_reply))

one_offers : Figure 0 × Figure 11 × Figure 12
unfolding read_row opened one_calls one X Y Z started after_call outcome after_all
one_offers =
    let of = one_in_step.offers in
    (one_taken_back (offer_call one.image (Y 7 5) some_reply) (of (Y 7 5) some_reply), one_late_back (offer_call one.image (Y 6 5) some_reply) (of (Y 6 5) some_reply), one_delaying_back (offer_call one.image Z some_reply) (of Z some_reply))

-- What the next call never returns: an offer that is done, an advance that is done, an open that is declined by 14, an offer that is late. 13 would say of the
-- live order that it is out.
one_never : (◌≢◌ {A = ℕ} 0 2) × (◌≢◌ {A = ℕ} 0 3) × (◌≢◌ {A = ℕ} 14 4) × (◌≢◌ {A = ℕ} 11 9) × (◌≢◌ {A = ℕ} 0 13)
unfolding read_row opened one_calls one X Y Z started after_call outcome after_all
one_never =
    let s = one_in_step in
    (s.never_2 (whole (offering (Y 7 5))), s.never_3 (whole advancing), s.never_4 (whole (opening 9)), s.never_9 (whole (offering (Y 6 5))), λ e. s.thirteen_alone some_reply e (entry one 0) (Memᴰ.head refl) refl)

-- ---- N = 8: an order of cost 1 everywhere with due-in 12, and one advance
pub long_allowed : AllAllowed (opened 8) long_calls
unfolding long_calls
long_allowed = (tt, (tt, tt))

pub long_in_step : InStep long
unfolding opened long
long_in_step = claims.by_history 8 (omega arith) (omega arith) some_image refl some_reply refl long_calls long_allowed

-- The image has the history's clock, as bytes and read back.
long_image : Figure 1 × Figure 1
unfolding read_row opened long_calls long order P Q started after_call outcome after_all
long_image = (ap (λ (image : List ℕ). word image clock_at) long_in_step.image_is, ap (λ s. s.clock) long_in_step.read_back)

-- An order of cost 1 everywhere with due-in 10: the first has the bound 9 and is due at 12, the second 10 and 11.
long_taken : (r : Result) → OfBlock long.history (P 10) r → r.number ≡ 0 → (Figure 16 × Figure 28 × (1 ≤ 1) × (1 ≤ 6000) × (1 ≤ 1) × (1 ≤ 6000) × Figure 0 × Figure 0 × (10 ≤ 60000) × (11 ≤ 4000000000) × (1 < 32)) × ((9 ≤ 12) × (10 ≤ 11)) × (word r.reply reply_tick_at ≡ 10) × (part r.reply reply_margin_at 4 ≡ 1 ∷ 0 ∷ 0 ∷ 0 ∷ []) × (1 < 2147483648)
unfolding read_row opened long_calls long order P Q started after_call outcome after_all
long_taken r j = taken (Whole (P 10)) long.history (block_of (P 10)) refl r j (omega arith)

long_taken_back : (r : Result) → OfBlock long.history (P 10) r → r.number ≡ 0
unfolding read_row opened long_calls long order P Q started after_call outcome after_all
long_taken_back r j = taken_back (Whole (P 10)) long.history (block_of (P 10)) refl r j (considered (Whole (P 10)) long.history (block_of (P 10)) refl (leb-true _ _ (refl {a = true})) (refl {a = true}) (refl {a = true}) (refl {a = true}) (leb-true _ _ (refl {a = true})) (leb-true _ _ (refl {a = true})) (leb-true _ _ (refl {a = true}))) (leb-true _ _ (refl {a = true})) (leb-true _ _ (refl {a = true}))

-- With due-in 8 it is due at 9.
long_late : (r : Result) → OfBlock long.history (P 8) r → r.number ≡ 11 → (Figure 16 × Figure 28 × (1 ≤ 1) × (1 ≤ 6000) × (1 ≤ 1) × (1 ≤ 6000) × Figure 0 × Figure 0 × (8 ≤ 60000) × (9 ≤ 4000000000) × (1 < 32)) × (9 < 10) × (part r.reply reply_margin_at 4 ≡ 255 ∷ 255 ∷ 255 ∷ 255 ∷ []) × (0 < 2147483648)
unfolding read_row opened long_calls long order P Q started after_call outcome after_all
long_late r j = late (Whole (P 8)) long.history (block_of (P 8)) refl r j (omega arith)

long_late_back : (r : Result) → OfBlock long.history (P 8) r → r.number ≡ 11
unfolding read_row opened long_calls long order P Q started after_call outcome after_all
long_late_back r j = late_back (Whole (P 8)) long.history (block_of (P 8)) refl r j (considered (Whole (P 8)) long.history (block_of (P 8)) refl (leb-true _ _ (refl {a = true})) (refl {a = true}) (refl {a = true}) (refl {a = true}) (leb-true _ _ (refl {a = true})) (leb-true _ _ (refl {a = true})) (leb-true _ _ (refl {a = true}))) (leb-true _ _ (refl {a = true}))

-- One of cost 3 everywhere has the bound 26 and is due at 101; the first would have the bound 25.
long_delaying : (r : Result) → OfBlock long.history Q r → r.number ≡ 12 → (Figure 16 × Figure 28 × (1 ≤ 3) × (3 ≤ 6000) × (1 ≤ 3) × (3 ≤ 6000) × Figure 0 × Figure 0 × (100 ≤ 60000) × (101 ≤ 4000000000) × (1 < 32)) × (26 ≤ 101) × (12 < 25) × (part r.reply reply_margin_at 4 ≡ 243 ∷ 255 ∷ 255 ∷ 255 ∷ []) × (12 < 2147483648)
unfolding read_row opened long_calls long order P Q started after_call outcome after_all
long_delaying r j = delaying (Whole Q) long.history (block_of Q) refl r j (omega arith) (leb-true _ _ (refl {a = true}))

long_delaying_back : (r : Result) → OfBlock long.history Q r → r.number ≡ 12
unfolding read_row opened long_calls long order P Q started after_call outcome after_all
long_delaying_back r j = delaying_back (Whole Q) long.history (block_of Q) refl r j (considered (Whole Q) long.history (block_of Q) refl (leb-true _ _ (refl {a = true})) (refl {a = true}) (refl {a = true}) (refl {a = true}) (leb-true _ _ (refl {a = true})) (leb-true _ _ (refl {a = true})) (leb-true _ _ (refl {a = true}))) (leb-true _ _ (refl {a = true})) (leb-true _ _ (refl {a = true}))

-- All of it of quotes and of offers: the calls return 0, 11 and 12.
long_quotes : Figure 0 × Figure 11 × Figure 12
unfolding read_row opened long_calls long order P Q started after_call outcome after_all
long_quotes =
    let of = long_in_step.quotes in
    (long_taken_back (quote_call long.image (P 10) some_reply) (of (P 10) some_reply), long_late_back (quote_call long.image (P 8) some_reply) (of (P 8) some_reply), long_delaying_back (quote_call long.image Q some_reply) (of Q some_reply))

long_offers : Figure 0 × Figure 11 × Figure 12
unfolding read_row opened long_calls long order P Q started after_call outcome after_all
long_offers =
    let of = long_in_step.offers in
    (long_taken_back (offer_call long.image (P 10) some_reply) (of (P 10) some_reply), long_late_back (offer_call long.image (P 8) some_reply) (of (P 8) some_reply), long_delaying_back (offer_call long.image Q some_reply) (of Q some_reply))

-- What the next call never returns: an offer that is done, an advance that is done, an open that is declined by 14, an offer that is late. 13 would say of the
-- live order that it is out.
long_never : (◌≢◌ {A = ℕ} 0 2) × (◌≢◌ {A = ℕ} 0 3) × (◌≢◌ {A = ℕ} 14 4) × (◌≢◌ {A = ℕ} 11 9) × (◌≢◌ {A = ℕ} 0 13)
unfolding read_row opened long_calls long order P Q started after_call outcome after_all
long_never =
    let s = long_in_step in
    (s.never_2 (whole (offering (P 10))), s.never_3 (whole advancing), s.never_4 (whole (opening 9)), s.never_9 (whole (offering (P 8))), λ e. s.thirteen_alone some_reply e (entry long 0) (Memᴰ.head refl) refl)
