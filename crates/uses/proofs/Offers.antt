-- A use of what an offer and a quote return, give and leave, on a definite image: an order that is taken, one that is late, one that would delay a live order;
-- of a done open; and of what each call leaves when it is declined.
use mathlib.Core.Path.{◌≡◌, refl, sym, ap, subst, ◌∙◌}
use mathlib.Core.Logic.{◌⊎◌, inl, inr}
use mathlib.Core.Bool.{true, false, ◌&&◌}
use mathlib.Core.List.Memᴰ
use mathlib.Core.List.{List, [], ◌∷◌, ◌++◌, map}
use Prim.Native.Nat.{ℕ, ◌+◌, ◌≤◌, ◌<◌}
use native.Mathlib.Omega.{arith}
use lib.ListN.{length, get_or, take, drop, replicate}
use lib.Dec.{leb, ltb}
use lib.IntN.{ℤ, pos}
use lib.Signed.{mag, lt_z}
use borrow.Author.Tests.{leb-true, eqb-false}
use Rattle.model.specs.declared.Order.{Order}
use Rattle.model.specs.Limits.{max_live, max_due_in, last_tick}
use Rattle.model.specs.Lists.{at, part}
use Rattle.model.specs.Bytes.{word, four_bytes, bits32}
use Rattle.model.specs.State.{State}
use Rattle.model.specs.Layout.{clock_at, records_at, record_size, due_at, block_size, reply_tick_at, reply_margin_at}
use Rattle.model.specs.Image.{marked, decode}
use Rattle.model.specs.Soundness.{costs_in_range, zero_beyond, sound}
use Rattle.model.specs.Admission.{block_of, due_of, arrival, joined_by, joined_live}
use Rattle.model.specs.Calls.{Result, offer_number, quote_call, offer_call, opening, quoting, offering, advancing}
use Rattle.model.specs.Runs.{started, outcome, after_call, after_all}
use Rattle.model.specs.Table.{read_row, lent}
use Rattle.model.specs.Cases.{order, X, Y}
use Rattle.schedule.specs.Valid.{◌∈◌}
use Rattle.image_laws.specs.InRange.{byte_limit, Below}
use Rattle.image_laws.specs.Usable.{Usable}
use Rattle.call_laws.specs.OpenExact.{OpenedAt}
use Rattle.call_laws.specs.Considered.{Considered}
use Rattle.call_laws.specs.OfferExact.{bound_tick_of, InTime, Late, margin_of, ExactAt}
use Rattle.call_laws.specs.OfferKept.{QuotedAs}
use Rattle.call_laws.specs.DefaultDueIn.{StandsFor}
use Rattle.call_laws.proofs.offers.Questions.{fitting}
use Rattle.claims.proofs.Claims.{claims}
use Rattle.uses.specs.DefiniteLists.{some_image, some_reply, opened, one_calls, one, Z, long_calls, long, P, end_image}
use Rattle.uses.proofs.Words.{Figure, Bytes, Yes, No, of_one, smaller, smaller_of_two, all_bytes}

-- ---- what is taken from `Exact`, of any image of bytes with one live order, and any block
module _ (image block : List ℕ) where
  abbrev s : State
  s = decode image

  abbrev costs : List ℕ
  costs = (block_of block).costs

  abbrev arriving : Order
  arriving = arrival s (block_of block)

  -- The live order, with the arrival in its set.
  abbrev other : Order
  other = joined_by (block_of block) (get_or s.orders 0 arriving)

  abbrev OnlyOne : Type 0
  OnlyOne = s.orders ≡ get_or s.orders 0 arriving ∷ []

  abbrev number : ℕ
  number = offer_number image block some_reply

  -- What was asked before 11, of the costs at the first station and at the last, and beyond it.
  abbrev Asked : Type 0
  Asked =
      ((length some_reply ≡ 16) × (length image ≡ 2128) × (marked image ≡ true) × (sound image ≡ true)) × (length block ≡ 28)
      × ((1 ≤ at 0 costs 1) × (at 0 costs 1 ≤ 6000) × (1 ≤ at 0 costs s.n) × (at 0 costs s.n ≤ 6000) × (at 0 costs (s.n + 1) ≡ 0) × (at 0 (block_of block).ranks (s.n + 1) ≡ 0)
      × ((block_of block).due_in ≤ 60000) × (due_of s.clock (block_of block) ≤ 4000000000) × (1 ≤ s.next) × (length s.orders < 32))

  asked : 1 ≤ s.n → Considered image block some_reply → Asked
  asked some c =
      let u = c.usable in
      let f = c.fitting in
      ((u.reply_whole, u.image_whole, u.image_marked, u.image_sound), c.block_whole, (f.cost_low 1 (omega arith) some, f.cost_high 1 (omega arith) some, f.cost_low s.n some (omega arith), f.cost_high s.n some (omega arith), f.cost_beyond (s.n + 1) (omega arith), f.rank_beyond (s.n + 1) (omega arith), f.due_in, f.due_tick, f.ticket_left, f.room))

  -- And the way back, by computed tests.
  considered : Usable image some_reply → length block ≡ block_size → s.n ≤ length costs → (costs_in_range s.n costs && zero_beyond s.n costs && zero_beyond s.n (block_of block).ranks) ≡ true → leb (block_of block).due_in max_due_in ≡ true → leb (due_of s.clock (block_of block)) last_tick ≡ true → leb 1 s.next ≡ true → ltb (length s.orders) max_live ≡ true → Considered image block some_reply
  considered usable whole long in_range due_in due_tick ticket room =
      record { usable = usable; block_whole = whole; fitting = fitting s (block_of block) long in_range due_in due_tick ticket room }

  module _ (bytes : Below byte_limit image) (one : OnlyOne) (x : ExactAt image block some_reply s (block_of block)) where
    of_it : (P : Order → Type 0) → P (get_or s.orders 0 arriving) → (o : Order) → o ∈ s.orders → P o
    of_it P p o m = of_one P (get_or s.orders 0 arriving) p o (subst (λ (l : List Order). o ∈ l) one m)

    it_in : get_or s.orders 0 arriving ∈ s.orders
    it_in = subst (λ (l : List Order). get_or s.orders 0 arriving ∈ l) (sym one) (Memᴰ.head refl)

    the_two : arriving ∷ joined_live s (block_of block) ≡ arriving ∷ other ∷ []
    unfolding joined_live
    the_two = ap (λ (l : List Order). arriving ∷ map (joined_by (block_of block)) l) one

    -- The margin given: the smaller of the two, as bytes; that it is a signed number of 32 bits; and its sign.
    abbrev least : ℤ
    least = smaller (margin_of s.n arriving) (margin_of s.n other)

    margin : (decided : (number ≡ 0) ⊎ (number ≡ 11) ⊎ (number ≡ 12)) → (part (offer_call image block some_reply).reply reply_margin_at 4 ≡ four_bytes (bits32 least)) × (mag least < 2147483648) × (number ≡ 0 → lt_z least (pos 0) ≡ false) × ((number ≡ 11) ⊎ (number ≡ 12) → lt_z least (pos 0) ≡ true)
    margin decided =
        let m = x.margin decided in
        let t = m.smallest in
        let is = smaller_of_two (margin_of s.n) arriving other m.given t.order (subst (λ (l : List Order). t.order ∈ l) the_two t.among) t.attained (λ o q. t.least o (subst (λ (l : List Order). o ∈ l) (sym the_two) q)) in
        (m.written ∙ ap (λ (z : ℤ). four_bytes (bits32 z)) is, subst (λ (z : ℤ). mag z < 2147483648) is (m.signed32 bytes), λ e. ap (λ (z : ℤ). lt_z z (pos 0)) (sym is) ∙ m.to_spare e, λ e. ap (λ (z : ℤ). lt_z z (pos 0)) (sym is) ∙ m.too_late e)

    -- 0: both on time, the tick, the margin. And back.
    taken : 1 ≤ s.n → number ≡ 0 → Asked × (InTime s.n arriving × InTime s.n other) × (part (offer_call image block some_reply).reply reply_tick_at 4 ≡ four_bytes (bound_tick_of s.n arriving)) × (part (offer_call image block some_reply).reply reply_margin_at 4 ≡ four_bytes (bits32 least)) × (mag least < 2147483648) × (lt_z least (pos 0) ≡ false)
    taken some is =
        let t = x.done.only is in
        let m = margin (inl is) in
        (asked some t.0, (t.1, t.2 (get_or s.orders 0 arriving) it_in), x.tick is, m.0, m.1, m.2 is)

    taken_back : Considered image block some_reply → InTime s.n arriving → InTime s.n other → number ≡ 0
    taken_back c p q = x.done.if (c, p, of_it (λ (o : Order). InTime s.n (joined_by (block_of block) o)) q)

    -- 11: the arrival is late. And back.
    late : 1 ≤ s.n → number ≡ 11 → Asked × Late s.n arriving × (part (offer_call image block some_reply).reply reply_margin_at 4 ≡ four_bytes (bits32 least)) × (mag least < 2147483648) × (lt_z least (pos 0) ≡ true)
    late some is =
        let t = x.late.only is in
        let m = margin (inr (inl is)) in
        (asked some t.0, t.1, m.0, m.1, m.3 (inl is))

    late_back : Considered image block some_reply → Late s.n arriving → number ≡ 11
    late_back c p = x.late.if (c, p)

    -- 12: the arrival is on time, and the live order would not be. And back.
    delaying : 1 ≤ s.n → number ≡ 12 → Asked × InTime s.n arriving × Late s.n other × (part (offer_call image block some_reply).reply reply_margin_at 4 ≡ four_bytes (bits32 least)) × (mag least < 2147483648) × (lt_z least (pos 0) ≡ true)
    delaying some is =
        let t = x.delaying.only is in
        let m = margin (inr (inr is)) in
        (asked some t.0, t.1, of_it (λ (o : Order). Late s.n (joined_by (block_of block) o) → Late s.n other) (λ l. l) t.2 t.3 t.4, m.0, m.1, m.3 (inr is))

    delaying_back : Considered image block some_reply → InTime s.n arriving → Late s.n other → number ≡ 12
    delaying_back c p q = x.delaying.if (c, p, get_or s.orders 0 arriving, it_in, q)

-- ---- N = 2: X with due-in 9, and one advance
pub one_bytes : Below byte_limit one.image
unfolding read_row opened one_calls one X Y Z started after_call outcome after_all
one_bytes = all_bytes one.image (refl {a = true})

pub one_usable : Usable one.image some_reply
unfolding read_row opened one_calls one X Y Z started after_call outcome after_all
one_usable = record { reply_whole = refl; image_whole = refl {a = 2128}; image_marked = refl {a = true}; image_sound = refl {a = true} }

at_one : (block : List ℕ) → ExactAt one.image block some_reply (decode one.image) (block_of block)
at_one block = claims.exact one.image block some_reply

-- Y with due-in 7: it has the bound 8, on which it is due; X has the bound 7 and is due at 9.
one_taken : ((Figure 16 × Figure 2128 × Yes × Yes) × Figure 28 × ((1 ≤ 1) × (1 ≤ 6000) × (1 ≤ 2) × (2 ≤ 6000) × Figure 0 × Figure 0 × (7 ≤ 60000) × (8 ≤ 4000000000) × (1 ≤ 2) × (1 < 32))) × ((8 ≤ 8) × (7 ≤ 9)) × Bytes (8 ∷ 0 ∷ 0 ∷ 0 ∷ []) × Bytes (0 ∷ 0 ∷ 0 ∷ 0 ∷ []) × (0 < 2147483648) × No
unfolding read_row opened one_calls one X Y Z started after_call outcome after_all
one_taken = taken one.image (Y 7 5) one_bytes refl (at_one (Y 7 5)) (leb-true _ _ (refl {a = true})) refl

one_taken_back : Figure 0
unfolding read_row opened one_calls one X Y Z started after_call outcome after_all
one_taken_back = taken_back one.image (Y 7 5) one_bytes refl (at_one (Y 7 5)) (considered one.image (Y 7 5) one_usable refl (leb-true _ _ (refl {a = true})) (refl {a = true}) (refl {a = true}) (refl {a = true}) (refl {a = true}) (refl {a = true})) (leb-true _ _ (refl {a = true})) (leb-true _ _ (refl {a = true}))

-- Y with due-in 6 is due at 7.
one_late : ((Figure 16 × Figure 2128 × Yes × Yes) × Figure 28 × ((1 ≤ 1) × (1 ≤ 6000) × (1 ≤ 2) × (2 ≤ 6000) × Figure 0 × Figure 0 × (6 ≤ 60000) × (7 ≤ 4000000000) × (1 ≤ 2) × (1 < 32))) × (7 < 8) × Bytes (255 ∷ 255 ∷ 255 ∷ 255 ∷ []) × (0 < 2147483648) × Yes
unfolding read_row opened one_calls one X Y Z started after_call outcome after_all
one_late = late one.image (Y 6 5) one_bytes refl (at_one (Y 6 5)) (leb-true _ _ (refl {a = true})) refl

one_late_back : Figure 11
unfolding read_row opened one_calls one X Y Z started after_call outcome after_all
one_late_back = late_back one.image (Y 6 5) one_bytes refl (at_one (Y 6 5)) (considered one.image (Y 6 5) one_usable refl (leb-true _ _ (refl {a = true})) (refl {a = true}) (refl {a = true}) (refl {a = true}) (refl {a = true}) (refl {a = true})) (leb-true _ _ (refl {a = true}))

-- Z has the bound 12 and is due at 101; X would have the bound 11.
one_delaying : ((Figure 16 × Figure 2128 × Yes × Yes) × Figure 28 × ((1 ≤ 4) × (4 ≤ 6000) × (1 ≤ 4) × (4 ≤ 6000) × Figure 0 × Figure 0 × (100 ≤ 60000) × (101 ≤ 4000000000) × (1 ≤ 2) × (1 < 32))) × (12 ≤ 101) × (9 < 11) × Bytes (254 ∷ 255 ∷ 255 ∷ 255 ∷ []) × (1 < 2147483648) × Yes
unfolding read_row opened one_calls one X Y Z started after_call outcome after_all
one_delaying = delaying one.image Z one_bytes refl (at_one Z) (leb-true _ _ (refl {a = true})) refl

one_delaying_back : Figure 12
unfolding read_row opened one_calls one X Y Z started after_call outcome after_all
one_delaying_back = delaying_back one.image Z one_bytes refl (at_one Z) (considered one.image Z one_usable refl (leb-true _ _ (refl {a = true})) (refl {a = true}) (refl {a = true}) (refl {a = true}) (refl {a = true}) (refl {a = true})) (leb-true _ _ (refl {a = true})) (leb-true _ _ (refl {a = true}))

-- ---- a quote gives what the offer would, with ticket 0
quoted : QuotedAs one.image (quote_call one.image (Y 7 5) some_reply) (offer_call one.image (Y 7 5) some_reply)
quoted = claims.quote_gives_offer one.image (Y 7 5) some_reply

quote_gives : Figure 0 × Figure 1 × Bytes (replicate 8 0 ++ (8 ∷ replicate 7 0))
unfolding read_row opened one_calls one X Y Z started after_call outcome after_all
quote_gives = (quoted.same_number, ap (λ (image : List ℕ). word image clock_at) quoted.image_left, quoted.same_reply (eqb-false 0 1 refl))

-- With a reply of 15 bytes neither touches it.
quote_unheard : Bytes (replicate 15 238)
unfolding read_row opened one_calls one X Y Z started after_call outcome after_all
quote_unheard = (claims.quote_gives_offer one.image (Y 7 5) (lent 15)).unheard refl

-- ---- due-in 0 is 9,000 written out: of an offer that is done, and of a quote that is late
zero : StandsFor one.image some_reply
zero = claims.default_due_in one.image some_reply

-- Costs 6,000 and 6,000: a delay bound of 12,003. X would have 12,003 as well, and is due at 9.
abbrev heavy : ℕ → List ℕ
heavy due_in = order due_in 0 (6000 ∷ 6000 ∷ [])

-- Y comes to the bound 8 and X to 7, two ticks before it is due; Y is due at 1 + 9,000.
zero_offered : (offer_call one.image (Y 0 5) some_reply ≡ offer_call one.image (Y 9000 5) some_reply) × Figure 0 × Bytes (replicate 4 0 ++ (2 ∷ 0 ∷ 0 ∷ 0 ∷ 8 ∷ 0 ∷ 0 ∷ 0 ∷ 2 ∷ 0 ∷ 0 ∷ 0 ∷ [])) × Bytes (41 ∷ 35 ∷ 0 ∷ 0 ∷ [])
unfolding read_row opened one_calls one X Y Z started after_call outcome after_all
zero_offered =
    let same = zero.offers (drop 4 (Y 0 5)) in
    (same, ap (λ (r : Result). r.number) same, ap (λ (r : Result). r.reply) same, ap (λ (r : Result). part r.image (records_at + record_size + due_at) 4) same)

zero_quoted : (quote_call one.image (heavy 0) some_reply ≡ quote_call one.image (heavy 9000) some_reply) × Figure 11 × Bytes (11 ∷ replicate 11 0 ++ (38 ∷ 209 ∷ 255 ∷ 255 ∷ []))
unfolding read_row opened one_calls one X Y Z order started after_call outcome after_all
zero_quoted =
    let same = zero.quotes (drop 4 (heavy 0)) in
    (same, ap (λ (r : Result). r.number) same, ap (λ (r : Result). r.reply) same)

-- Whatever is lent: blocks of 27 bytes, a reply of 15, an image of 2,127, and one at the clock's end. And at 8 stations.
both_numbers : (image reply rest : List ℕ) → ((offer_call image (four_bytes 0 ++ rest) reply).number ≡ (offer_call image (four_bytes 9000 ++ rest) reply).number) × ((quote_call image (four_bytes 0 ++ rest) reply).number ≡ (quote_call image (four_bytes 9000 ++ rest) reply).number)
both_numbers image reply rest =
    let s = claims.default_due_in image reply in
    (ap (λ (r : Result). r.number) (s.offers rest), ap (λ (r : Result). r.number) (s.quotes rest))

zero_declined : (Figure 5 × Figure 5) × (Figure 1 × Figure 1) × (Figure 2 × Figure 2) × (Figure 8 × Figure 8)
unfolding read_row opened one_calls one X Y Z started after_call outcome after_all end_image
zero_declined =
    let rest = drop 4 (Y 0 5) in
    (both_numbers one.image some_reply (take 23 rest), both_numbers one.image (lent 15) rest, both_numbers (take 2127 one.image) some_reply rest, both_numbers end_image some_reply rest)

zero_long : Figure 0 × Figure 0
unfolding read_row opened long_calls long order P started after_call outcome after_all
zero_long = both_numbers long.image some_reply (drop 4 (P 0))

-- ---- a done offer leaves a sound image that says the state with the arrival
kept : Figure 2128 × (87 < 256) × Yes × Yes × Figure 3
unfolding read_row opened one_calls one X Y Z started after_call outcome after_all
kept =
    let k = claims.offers_keep_sound one.image (Y 7 5) some_reply one_bytes (all_bytes (Y 7 5) (refl {a = true})) refl in
    (k.whole, k.bytes 0, k.is_marked, k.is_sound, ap (λ (s : State). s.next) k.says)

-- ---- a done open: when it is done, its reply of zeros, and a sound image that says the fresh state, at 2 stations and at 8
opened_at : (n : ℕ) → OpenedAt some_image n some_reply
opened_at n = claims.opens_fresh some_image n some_reply

opened_asked : Figure 16 × Figure 2128 × (1 ≤ 2) × (2 ≤ 8)
unfolding read_row
opened_asked = let o = (opened_at 2).done.only refl in (o.reply_whole, o.image_whole, o.n_low, o.n_high)

opened_back : Figure 0 × Figure 0
unfolding read_row
opened_back =
    ((opened_at 2).done.if (record { reply_whole = refl; image_whole = refl {a = 2128}; n_low = omega arith; n_high = omega arith }), (opened_at 8).done.if (record { reply_whole = refl; image_whole = refl {a = 2128}; n_low = omega arith; n_high = omega arith }))

opened_gives : Bytes (replicate 16 0) × Bytes (replicate 16 0)
unfolding read_row
opened_gives = ((opened_at 2).given refl, (opened_at 8).given refl)

opened_left : (Figure 2128 × (87 < 256) × Yes × Yes × Figure 0 × Figure 1) × (Yes × Yes × Figure 8)
unfolding read_row
opened_left =
    let two = (opened_at 2).left refl in
    let eight = (opened_at 8).left refl in
    ((two.whole, two.bytes 0, two.is_marked, two.is_sound, ap (λ (s : State). s.clock) two.says, ap (λ (s : State). s.next) two.says), (eight.is_marked, eight.is_sound, ap (λ (s : State). s.n) eight.says))

-- ---- what declines leave: of the image (its clock), and of the reply, whole; with 11 and 12 all but the margin, which stands above
declined_open : Figure 1 × Figure 16 × Bytes (14 ∷ replicate 11 0) × Bytes (14 ∷ replicate 15 0)
unfolding read_row opened one_calls one X Y Z started after_call outcome after_all
declined_open =
    let d = claims.declines (opening 9) one.image some_reply (eqb-false 14 0 refl) in
    (ap (λ (image : List ℕ). word image clock_at) d.image_left, d.reply_whole (eqb-false 14 1 refl), d.number_given (eqb-false 14 1 refl), d.all_given (eqb-false 14 1 refl) (eqb-false 14 11 refl) (eqb-false 14 12 refl))

declined_quote : Figure 1 × Figure 16 × Bytes (5 ∷ replicate 11 0) × Bytes (5 ∷ replicate 15 0)
unfolding read_row opened one_calls one X Y Z started after_call outcome after_all
declined_quote =
    let d = claims.declines (quoting (take 27 (Y 7 5))) one.image some_reply (eqb-false 5 0 refl) in
    (ap (λ (image : List ℕ). word image clock_at) d.image_left, d.reply_whole (eqb-false 5 1 refl), d.number_given (eqb-false 5 1 refl), d.all_given (eqb-false 5 1 refl) (eqb-false 5 11 refl) (eqb-false 5 12 refl))

declined_offer : Figure 1 × Figure 16 × Bytes (7 ∷ replicate 11 0) × Bytes (7 ∷ replicate 15 0)
unfolding read_row opened one_calls one X Y Z started after_call outcome after_all
declined_offer =
    let d = claims.declines (offering (Y 60001 5)) one.image some_reply (eqb-false 7 0 refl) in
    (ap (λ (image : List ℕ). word image clock_at) d.image_left, d.reply_whole (eqb-false 7 1 refl), d.number_given (eqb-false 7 1 refl), d.all_given (eqb-false 7 1 refl) (eqb-false 7 11 refl) (eqb-false 7 12 refl))

declined_advance : Figure 1 × Figure 16 × Bytes (2 ∷ replicate 11 0) × Bytes (2 ∷ replicate 15 0)
unfolding read_row opened one_calls one X Y Z started after_call outcome after_all
declined_advance =
    let d = claims.declines (advancing) (take 2127 one.image) some_reply (eqb-false 2 0 refl) in
    (ap (λ (image : List ℕ). word image clock_at) d.image_left, d.reply_whole (eqb-false 2 1 refl), d.number_given (eqb-false 2 1 refl), d.all_given (eqb-false 2 1 refl) (eqb-false 2 11 refl) (eqb-false 2 12 refl))

late_offer : Figure 1 × Figure 16 × Bytes (11 ∷ replicate 11 0)
unfolding read_row opened one_calls one X Y Z started after_call outcome after_all
late_offer =
    let d = claims.declines (offering (Y 6 5)) one.image some_reply (eqb-false 11 0 refl) in
    (ap (λ (image : List ℕ). word image clock_at) d.image_left, d.reply_whole (eqb-false 11 1 refl), d.number_given (eqb-false 11 1 refl))

delaying_quote : Figure 1 × Figure 16 × Bytes (12 ∷ replicate 11 0)
unfolding read_row opened one_calls one X Y Z started after_call outcome after_all
delaying_quote =
    let d = claims.declines (quoting Z) one.image some_reply (eqb-false 12 0 refl) in
    (ap (λ (image : List ℕ). word image clock_at) d.image_left, d.reply_whole (eqb-false 12 1 refl), d.number_given (eqb-false 12 1 refl))

-- After 1 the reply is as it was.
unheard : Figure 1 × Bytes (replicate 17 238)
unfolding read_row opened one_calls one X Y Z started after_call outcome after_all
unheard =
    let d = claims.declines advancing one.image (lent 17) (eqb-false 1 0 refl) in
    (ap (λ (image : List ℕ). word image clock_at) d.image_left, d.reply_left refl)
