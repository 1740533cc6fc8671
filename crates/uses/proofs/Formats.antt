-- A use of what is said of orders by format, at 2 stations and at 8: the call on the block, its numbers, quotes beside offers, what is judged by the history, and
-- the rule of the long sides. In a cabinet of 2 stations A3 is document 01's X, A5 its Y, and B1 has costs 4 and 5.
use mathlib.Core.Path.{◌≡◌, refl, ap}
use mathlib.Core.Logic.{◌≢◌, inl, inr, ⊎_elim}
use mathlib.Core.Bool.{true}
use mathlib.Core.List.{List, [], ◌∷◌, ◌++◌}
use Prim.Native.Nat.{ℕ, zero, suc, ◌+◌, ◌/◌, ◌≤◌, ◌<◌}
use native.Mathlib.Omega.{arith}
use lib.ListN.{length, take, drop, replicate}
use lib.Dec.{eqb}
use borrow.Author.Tests.{eqb-true, eqb-false, leb-true}
use Rattle.model.specs.Lists.{at, part}
use Rattle.model.specs.Bytes.{word}
use Rattle.model.specs.Layout.{clock_at, next_at, records_at, record_size, due_at, reply_tick_at, reply_margin_at}
use Rattle.model.specs.Admission.{block_bytes}
use Rattle.model.specs.Formats.{FormatOrder, speeds, format_cost, long_sides, format_block, halving}
use Rattle.model.specs.Calls.{Result, offer_call, quote_call, quoting_format, offering_format, format_number, offer_format_call, quote_format_call}
use Rattle.model.specs.Runs.{started, outcome, after_call, after_all}
use Rattle.model.specs.Table.{lent, read_row}
use Rattle.model.specs.Cases.{order, X, Y}
use Rattle.model.specs.FormatCases.{sheet_of, by_format, two_stations}
use Rattle.lists.proofs.Tests.{and_both}
use Rattle.image_laws.specs.Usable.{Usable}
use Rattle.call_laws.specs.OfferKept.{QuotedAs}
use Rattle.call_laws.specs.DefaultDueIn.{format_with_due_in, StandsFor}
use Rattle.call_laws.specs.FormatExact.{Readable, Writable, FormatAt}
use Rattle.claims.specs.ByHistory.{Judged}
use Rattle.claims.proofs.Claims.{claims}
use Rattle.uses.specs.DefiniteLists.{some_reply, opened, whole, one_calls, one, long_calls, long, all_stations, P, end_image}
use Rattle.uses.proofs.Words.{Figure, Bytes, Yes}
use Rattle.uses.proofs.Offers.{one_usable}
use Rattle.uses.proofs.ByHistory.{taken, taken_back, late, late_back, delaying, delaying_back, considered, one_in_step, long_in_step}

-- What is said of two stations, or of eight, is said of each.
of_two_stations : (Says : ℕ → Type 0) → Says 1 → Says 2 → (k : ℕ) → 1 ≤ k → k ≤ 2 → Says k
of_two_stations Says a b zero low high = absurd (omega arith)
of_two_stations Says a b (suc zero) low high = a
of_two_stations Says a b (suc (suc zero)) low high = b
of_two_stations Says a b (suc (suc (suc k))) low high = absurd (omega arith)

-- What is taken of an order that can be written, at the first station and at the last.
abbrev Figures : ℕ → FormatOrder → Type 0
Figures n f =
    ((length f.sheet ≡ 32) × (1 ≤ f.format) × (f.format ≤ 10) × (1 ≤ at 0 (speeds f.sheet) 1) × (1 ≤ at 0 (speeds f.sheet) n))
    × (format_cost f 1 < 65536) × (format_cost f n < 65536) × (f.due_in < 4294967296)

figures : (n : ℕ) (f : FormatOrder) → 1 ≤ n → Writable n f → Figures n f
figures n f some w =
    let r = w.readable in
    ((r.sheet_whole, r.known.0, r.known.1, r.moving 1 (omega arith) some, r.moving n some (omega arith)), w.costs_fit 1 (omega arith) some, w.costs_fit n some (omega arith), w.due_in_fits)

-- ---- N = 2: X with due-in 9, and one advance; then by format
at_one : (f : FormatOrder) → FormatAt one.image f some_reply 2
unfolding read_row opened one_calls one X Y started after_call outcome after_all
at_one f = claims.format_as_block one.image f some_reply

-- A5 with due-in 7 and rank 5 is Y: offered and quoted, the calls are those on Y's 28 bytes.
abbrev as_y : ℕ → FormatOrder
as_y due_in = by_format 5 due_in 5 two_stations

-- B1 has costs 4 and 5.
abbrev as_b1 : ℕ → FormatOrder
as_b1 due_in = by_format 6 due_in 0 two_stations

one_as_block : (offer_format_call one.image (as_y 7) some_reply ≡ offer_call one.image (Y 7 5) some_reply) × (quote_format_call one.image (as_y 7) some_reply ≡ quote_call one.image (Y 7 5) some_reply)
unfolding read_row opened one_calls one X Y by_format two_stations started after_call outcome after_all block_bytes
one_as_block = let a = at_one (as_y 7) in let w = a.considered (inl refl) in (a.offers_as_block w, a.quotes_as_block w)

-- In figures: number 0, tick 8, and the next ticket 3 in the image; of the quote number 0, tick 8, and the next ticket 2.
one_offer_figures : Figure 0 × Figure 8 × Figure 3
unfolding read_row opened one_calls one X Y by_format two_stations started after_call outcome after_all block_bytes
one_offer_figures =
    (ap (λ (r : Result). r.number) one_as_block.0, ap (λ (r : Result). word r.reply reply_tick_at) one_as_block.0, ap (λ (r : Result). word r.image next_at) one_as_block.0)

one_quote_figures : Figure 0 × Figure 8 × Figure 2
unfolding read_row opened one_calls one X Y by_format two_stations started after_call outcome after_all block_bytes
one_quote_figures =
    (ap (λ (r : Result). r.number) one_as_block.1, ap (λ (r : Result). word r.reply reply_tick_at) one_as_block.1, ap (λ (r : Result). word r.image next_at) one_as_block.1)

-- What can be written as a block is its call also where that is declined: a cost of 6,001, and a due-in of 60,001.
above_range : Writable 2 (by_format 3 60001 0 (sheet_of (5999 ∷ 1 ∷ []) (250 ∷ 250 ∷ [])))
unfolding read_row by_format sheet_of
above_range =
    record {
      readable =
          record {
            sheet_whole = refl;
            known = (leb-true _ _ (refl {a = true}), leb-true _ _ (refl {a = true}));
            moving = of_two_stations _ (leb-true _ _ (refl {a = true})) (leb-true _ _ (refl {a = true}));
          };
      costs_fit = of_two_stations _ (leb-true _ _ (refl {a = true})) (leb-true _ _ (refl {a = true}));
      due_in_fits = leb-true _ _ (refl {a = true});
    }

one_above_range : Figure 6
unfolding read_row opened one_calls one X Y by_format sheet_of started after_call outcome after_all block_bytes
one_above_range = ap (λ (r : Result). r.number) ((at_one (by_format 3 60001 0 (sheet_of (5999 ∷ 1 ∷ []) (250 ∷ 250 ∷ [])))).offers_as_block above_range)

-- 0, 11 and 12: everything before passes, the costs and the due-in fit. B1 would delay X.
abbrev WritableAs : ℕ → ℕ → ℕ → ℕ → Type 0
WritableAs format first last due_in = (Figure 32 × (1 ≤ format) × (format ≤ 10) × (1 ≤ 250) × (1 ≤ 250)) × (first < 65536) × (last < 65536) × (due_in < 4294967296)

one_considered : WritableAs 5 1 2 7 × WritableAs 5 1 2 6 × WritableAs 6 4 5 100
unfolding read_row opened one_calls one X Y by_format two_stations started after_call outcome after_all
one_considered = (
  figures 2 (as_y 7) (omega arith) ((at_one (as_y 7)).considered (inl refl)),
  figures 2 (as_y 6) (omega arith) ((at_one (as_y 6)).considered (inr (inl refl))),
  figures 2 (as_b1 100) (omega arith) ((at_one (as_b1 100)).considered (inr (inr refl))),
)

-- 1 and 2: a reply of 15 bytes, an image of 2,127.
one_unheard : Figure 1 × Figure 2
unfolding read_row opened one_calls one X Y by_format two_stations started after_call outcome after_all
one_unheard =
    ((claims.format_as_block one.image (as_y 7) (lent 15)).one_to_four (eqb-false 1 0 refl), (claims.format_as_block (take 2127 one.image) (as_y 7) some_reply).one_to_four (eqb-false 2 0 refl))

-- What is usable, in figures.
abbrev Used : Type 0
Used = Figure 16 × Figure 2128 × Yes × Yes

used : Usable one.image some_reply → Used
unfolding read_row opened one_calls one X Y started after_call outcome after_all
used u = (u.reply_whole, u.image_whole, u.image_marked, u.image_sound)

-- 5: a sheet of 31 bytes. And back.
abbrev short : FormatOrder
short = by_format 3 20 0 (take 31 two_stations)

one_five : (Used × (◌≢◌ {A = ℕ} 31 32)) × Figure 5
unfolding read_row opened one_calls one X Y by_format two_stations started after_call outcome after_all
one_five =
    let t = (at_one short).five.only refl in
    ((used t.0, t.1), (at_one short).five.if (one_usable, eqb-false 31 32 refl))

-- 19: formats 11 and 0. And back.
abbrev unnamed : ℕ → FormatOrder
unnamed format = by_format format 20 0 two_stations

one_nineteen : (Used × Figure 32 × (10 < 11)) × (Used × Figure 32 × (0 < 1)) × Figure 19 × Figure 19
unfolding read_row opened one_calls one X Y by_format two_stations started after_call outcome after_all
one_nineteen =
    let t = (at_one (unnamed 11)).nineteen.only refl in
    let z = (at_one (unnamed 0)).nineteen.only refl in (
      (used t.0, t.1, ⊎_elim (λ low. absurd (let w : ⊥ = omega (arith, low) in w)) (λ high. high) t.2),
      (used z.0, z.1, ⊎_elim (λ low. low) (λ high. absurd (let w : ⊥ = omega (arith, high) in w)) z.2),
      (at_one (unnamed 11)).nineteen.if (one_usable, refl, inr (leb-true _ _ (refl {a = true}))),
      (at_one (unnamed 0)).nineteen.if (one_usable, refl, inl (leb-true _ _ (refl {a = true}))),
    )

-- 20: a speed of 0 at station 2, and at no other. And back.
abbrev standing : FormatOrder
standing = by_format 3 20 0 (sheet_of (0 ∷ 1 ∷ []) (250 ∷ 0 ∷ []))

one_twenty : (Used × Figure 32 × (1 ≤ 3) × (3 ≤ 10)) × Figure 20
unfolding read_row opened one_calls one X Y by_format sheet_of started after_call outcome after_all
one_twenty =
    let t = (at_one standing).twenty.only refl in
    ((used t.0, t.1, t.2.0, t.2.1), (at_one standing).twenty.if (one_usable, refl, (leb-true _ _ (refl {a = true}), leb-true _ _ (refl {a = true})), 2, omega arith, omega arith, refl))

one_stands_at : (e : format_number one.image standing some_reply ≡ 20) → ((at_one standing).twenty.only e).3 ≡ 2
unfolding read_row opened one_calls one X Y by_format sheet_of started after_call outcome after_all
one_stands_at e =
    let t = (at_one standing).twenty.only e in
    of_two_stations (λ k. at 0 (speeds standing.sheet) k ≡ 0 → k ≡ 2) (λ z. absurd (let w : ⊥ = omega (arith, z) in w)) (λ z. refl) t.3 t.4 t.5 t.6

-- 6: a cost of 65,535 + 2 at station 2. And back.
abbrev wide : FormatOrder
wide = by_format 3 20 0 (sheet_of (1 ∷ 65535 ∷ []) (250 ∷ 250 ∷ []))

one_six : (Used × Figure 32 × (1 ≤ 250)) × Figure 6
unfolding read_row opened one_calls one X Y by_format sheet_of started after_call outcome after_all
one_six =
    let t = (at_one wide).six.only refl in
    ((used t.0, t.1.sheet_whole, t.1.moving 2 (omega arith) (omega arith)), (at_one wide).six.if (one_usable, t.1, 2, omega arith, omega arith, leb-true _ _ (refl {a = true})))

one_wide_at : (e : format_number one.image wide some_reply ≡ 6) → ((at_one wide).six.only e).2 ≡ 2
unfolding read_row opened one_calls one X Y by_format sheet_of started after_call outcome after_all
one_wide_at e =
    let t = (at_one wide).six.only e in
    of_two_stations (λ k. 6000 < format_cost wide k → k ≡ 2) (λ z. absurd (let w : ⊥ = omega (arith, z) in w)) (λ z. refl) t.2 t.3 t.4 t.5

-- A quote by format gives what the offer by format would, with ticket 0.
format_quoted : QuotedAs one.image (quote_format_call one.image (as_y 7) some_reply) (offer_format_call one.image (as_y 7) some_reply)
format_quoted = claims.format_quote_gives_offer one.image (as_y 7) some_reply

format_quote_gives : Figure 0 × Figure 1 × Bytes (replicate 8 0 ++ (8 ∷ replicate 7 0))
unfolding read_row opened one_calls one X Y by_format two_stations started after_call outcome after_all
format_quote_gives =
    (format_quoted.same_number, ap (λ (image : List ℕ). word image clock_at) format_quoted.image_left, format_quoted.same_reply (eqb-false 0 1 refl))

format_quote_unheard : Bytes (replicate 15 238)
unfolding read_row opened one_calls one X Y by_format two_stations started after_call outcome after_all
format_quote_unheard = (claims.format_quote_gives_offer one.image (as_y 7) (lent 15)).unheard refl

-- Due-in 0 is 9,000 written out by format, too: of A5, which is done, and of B1, which would delay X.
format_zero : StandsFor one.image some_reply
format_zero = claims.default_due_in one.image some_reply

format_zero_offered : (offer_format_call one.image (as_y 0) some_reply ≡ offer_format_call one.image (as_y 9000) some_reply) × Figure 0 × Bytes (replicate 4 0 ++ (2 ∷ 0 ∷ 0 ∷ 0 ∷ 8 ∷ 0 ∷ 0 ∷ 0 ∷ 2 ∷ 0 ∷ 0 ∷ 0 ∷ [])) × Bytes (41 ∷ 35 ∷ 0 ∷ 0 ∷ [])
unfolding read_row opened one_calls one X Y by_format two_stations started after_call outcome after_all
format_zero_offered =
    let same = format_zero.format_offers (as_y 7) in
    (same, ap (λ (r : Result). r.number) same, ap (λ (r : Result). r.reply) same, ap (λ (r : Result). part r.image (records_at + record_size + due_at) 4) same)

format_zero_quoted : (quote_format_call one.image (as_b1 0) some_reply ≡ quote_format_call one.image (as_b1 9000) some_reply) × Figure 12 × Bytes (12 ∷ replicate 11 0 ++ (253 ∷ 255 ∷ 255 ∷ 255 ∷ []))
unfolding read_row opened one_calls one X Y by_format two_stations started after_call outcome after_all
format_zero_quoted =
    let same = format_zero.format_quotes (as_b1 100) in
    (same, ap (λ (r : Result). r.number) same, ap (λ (r : Result). r.reply) same)

-- Whatever is lent: no such format, a sheet of 31 bytes, a reply of 15, an image of 2,127, and one at the clock's end. And at 8 stations.
both_by_format : (image reply : List ℕ) (f : FormatOrder) → ((offer_format_call image (format_with_due_in 0 f) reply).number ≡ (offer_format_call image (format_with_due_in 9000 f) reply).number) × ((quote_format_call image (format_with_due_in 0 f) reply).number ≡ (quote_format_call image (format_with_due_in 9000 f) reply).number)
both_by_format image reply f =
    let s = claims.default_due_in image reply in
    (ap (λ (r : Result). r.number) (s.format_offers f), ap (λ (r : Result). r.number) (s.format_quotes f))

format_zero_declined : (Figure 19 × Figure 19) × (Figure 5 × Figure 5) × (Figure 1 × Figure 1) × (Figure 2 × Figure 2) × (Figure 8 × Figure 8)
unfolding read_row opened one_calls one X Y by_format two_stations started after_call outcome after_all end_image
format_zero_declined =
    (both_by_format one.image some_reply (unnamed 11), both_by_format one.image some_reply short, both_by_format one.image (lent 15) (as_y 7), both_by_format (take 2127 one.image) some_reply (as_y 7), both_by_format end_image some_reply (as_y 7))

-- What declines leave: 19 of an offer, and 12 of a quote, all but the margin, which is judged below.
format_offer_declined : Figure 1 × Figure 16 × Bytes (19 ∷ replicate 11 0) × Bytes (19 ∷ replicate 15 0)
unfolding read_row opened one_calls one X Y by_format two_stations started after_call outcome after_all
format_offer_declined =
    let d = claims.declines (offering_format (unnamed 11)) one.image some_reply (eqb-false 19 0 refl) in
    (ap (λ (image : List ℕ). word image clock_at) d.image_left, d.reply_whole (eqb-false 19 1 refl), d.number_given (eqb-false 19 1 refl), d.all_given (eqb-false 19 1 refl) (eqb-false 19 11 refl) (eqb-false 19 12 refl))

format_quote_declined : Figure 1 × Figure 16 × Bytes (12 ∷ replicate 11 0)
unfolding read_row opened one_calls one X Y by_format two_stations started after_call outcome after_all
format_quote_declined =
    let d = claims.declines (quoting_format (as_b1 100)) one.image some_reply (eqb-false 12 0 refl) in
    (ap (λ (image : List ℕ). word image clock_at) d.image_left, d.reply_whole (eqb-false 12 1 refl), d.number_given (eqb-false 12 1 refl))

-- B1 by its block: costs 4 and 5, and so 12.
b1_block : Figure 12 × Figure 12
unfolding read_row opened one_calls one X Y by_format two_stations started after_call outcome after_all block_bytes
b1_block =
    let a = at_one (as_b1 100) in
    let w = a.considered (inr (inr refl)) in
    (ap (λ (r : Result). r.number) (a.offers_as_block w), ap (λ (r : Result). r.number) (a.quotes_as_block w))

-- ---- the rule of the long sides: of both series, and in figures
both_series : (halving (take 5 long_sides) ≡ true) × (halving (drop 5 long_sides) ≡ true)
both_series = claims.long_sides

halves : (420 ≡ 841 / 2) × (297 ≡ 594 / 2) × (500 ≡ 1000 / 2) × (353 ≡ 707 / 2)
unfolding halving
halves =
    let a = and_both (eqb 420 (841 / 2)) _ both_series.0 in
    let b = and_both (eqb 500 (1000 / 2)) _ both_series.1 in (
      eqb-true 420 (841 / 2) a.0,
      eqb-true 297 (594 / 2) (and_both (eqb 297 (594 / 2)) _ a.1).0,
      eqb-true 500 (1000 / 2) b.0,
      eqb-true 353 (707 / 2) (and_both (eqb 353 (707 / 2)) _ b.1).0,
    )

-- ---- N = 8: an order of cost 1 everywhere with due-in 12, and one advance; then by format
at_long : (f : FormatOrder) → FormatAt long.image f some_reply 8
unfolding read_row opened long_calls long order started after_call outcome after_all
at_long f = claims.format_as_block long.image f some_reply

-- A5 has cost 1 everywhere.
abbrev small : ℕ → FormatOrder
small due_in = by_format 5 due_in 1 all_stations

long_as_block : (offer_format_call long.image (small 10) some_reply ≡ offer_call long.image (P 10) some_reply) × (quote_format_call long.image (small 10) some_reply ≡ quote_call long.image (P 10) some_reply)
unfolding read_row opened long_calls long order P by_format all_stations started after_call outcome after_all block_bytes
long_as_block = let a = at_long (small 10) in let w = a.considered (inl refl) in (a.offers_as_block w, a.quotes_as_block w)

long_zero : Figure 0 × Figure 0
unfolding read_row opened long_calls long order by_format all_stations started after_call outcome after_all
long_zero = both_by_format long.image some_reply (small 10)

long_considered : WritableAs 5 1 1 10
unfolding read_row opened long_calls long order by_format all_stations started after_call outcome after_all
long_considered = figures 8 (small 10) (omega arith) ((at_long (small 10)).considered (inl refl))

-- A speed of 0 at station 8 alone gets 20.
long_twenty : Figure 20
unfolding read_row opened long_calls long order by_format sheet_of started after_call outcome after_all
long_twenty =
    let standing = by_format 3 20 0 (sheet_of [] (replicate 7 250)) in
    (at_long standing).twenty.if (((at_long standing).twenty.only refl).0, refl, (leb-true _ _ (refl {a = true}), leb-true _ _ (refl {a = true})), 8, omega arith, omega arith, refl)

-- ---- by the history: one that is taken, one that is late, one that would delay a live order, of quotes and of offers
abbrev OfFormat : FormatOrder → Result → Type 0
OfFormat f r = Judged (Readable 2 f) one.history (format_block 2 f) some_reply r

readable_two : (format due_in rank : ℕ) → 1 ≤ format → format ≤ 10 → Readable 2 (by_format format due_in rank two_stations)
unfolding read_row by_format two_stations
readable_two format due_in rank low high = record { sheet_whole = refl; known = (low, high); moving = of_two_stations _ (leb-true _ _ (refl {a = true})) (leb-true _ _ (refl {a = true})) }

format_taken : (r : Result) → OfFormat (as_y 7) r → r.number ≡ 0 → (Figure 16 × Readable 2 (as_y 7) × (1 ≤ 1) × (1 ≤ 6000) × (1 ≤ 2) × (2 ≤ 6000) × Figure 0 × Figure 0 × (7 ≤ 60000) × (8 ≤ 4000000000) × (1 < 32)) × ((7 ≤ 9) × (8 ≤ 8)) × (word r.reply reply_tick_at ≡ 8) × (part r.reply reply_margin_at 4 ≡ 0 ∷ 0 ∷ 0 ∷ 0 ∷ []) × (0 < 2147483648)
unfolding read_row opened one_calls one X Y by_format two_stations started after_call outcome after_all
format_taken r j = taken (Readable 2 (as_y 7)) one.history (format_block 2 (as_y 7)) refl r j (omega arith)

format_taken_back : (r : Result) → OfFormat (as_y 7) r → r.number ≡ 0
unfolding read_row opened one_calls one X Y by_format two_stations started after_call outcome after_all
format_taken_back r j = taken_back (Readable 2 (as_y 7)) one.history (format_block 2 (as_y 7)) refl r j (considered (Readable 2 (as_y 7)) one.history (format_block 2 (as_y 7)) (readable_two 5 7 5 (omega arith) (omega arith)) (leb-true _ _ (refl {a = true})) (refl {a = true}) (refl {a = true}) (refl {a = true}) (leb-true _ _ (refl {a = true})) (leb-true _ _ (refl {a = true})) (leb-true _ _ (refl {a = true}))) (leb-true _ _ (refl {a = true})) (leb-true _ _ (refl {a = true}))

format_late : (r : Result) → OfFormat (as_y 6) r → r.number ≡ 11 → (Figure 16 × Readable 2 (as_y 6) × (1 ≤ 1) × (1 ≤ 6000) × (1 ≤ 2) × (2 ≤ 6000) × Figure 0 × Figure 0 × (6 ≤ 60000) × (7 ≤ 4000000000) × (1 < 32)) × (7 < 8) × (part r.reply reply_margin_at 4 ≡ 255 ∷ 255 ∷ 255 ∷ 255 ∷ []) × (0 < 2147483648)
unfolding read_row opened one_calls one X Y by_format two_stations started after_call outcome after_all
format_late r j = late (Readable 2 (as_y 6)) one.history (format_block 2 (as_y 6)) refl r j (omega arith)

format_late_back : (r : Result) → OfFormat (as_y 6) r → r.number ≡ 11
unfolding read_row opened one_calls one X Y by_format two_stations started after_call outcome after_all
format_late_back r j = late_back (Readable 2 (as_y 6)) one.history (format_block 2 (as_y 6)) refl r j (considered (Readable 2 (as_y 6)) one.history (format_block 2 (as_y 6)) (readable_two 5 6 5 (omega arith) (omega arith)) (leb-true _ _ (refl {a = true})) (refl {a = true}) (refl {a = true}) (refl {a = true}) (leb-true _ _ (refl {a = true})) (leb-true _ _ (refl {a = true})) (leb-true _ _ (refl {a = true}))) (leb-true _ _ (refl {a = true}))

-- B1 has costs 4 and 5: its bound is 13, it is due at 101, and X would have the bound 12.
format_delaying : (r : Result) → OfFormat (as_b1 100) r → r.number ≡ 12 → (Figure 16 × Readable 2 (as_b1 100) × (1 ≤ 4) × (4 ≤ 6000) × (1 ≤ 5) × (5 ≤ 6000) × Figure 0 × Figure 0 × (100 ≤ 60000) × (101 ≤ 4000000000) × (1 < 32)) × (13 ≤ 101) × (9 < 12) × (part r.reply reply_margin_at 4 ≡ 253 ∷ 255 ∷ 255 ∷ 255 ∷ []) × (2 < 2147483648)
unfolding read_row opened one_calls one X Y by_format two_stations started after_call outcome after_all
format_delaying r j = delaying (Readable 2 (as_b1 100)) one.history (format_block 2 (as_b1 100)) refl r j (omega arith) (leb-true _ _ (refl {a = true}))

format_delaying_back : (r : Result) → OfFormat (as_b1 100) r → r.number ≡ 12
unfolding read_row opened one_calls one X Y by_format two_stations started after_call outcome after_all
format_delaying_back r j = delaying_back (Readable 2 (as_b1 100)) one.history (format_block 2 (as_b1 100)) refl r j (considered (Readable 2 (as_b1 100)) one.history (format_block 2 (as_b1 100)) (readable_two 6 100 0 (omega arith) (omega arith)) (leb-true _ _ (refl {a = true})) (refl {a = true}) (refl {a = true}) (refl {a = true}) (leb-true _ _ (refl {a = true})) (leb-true _ _ (refl {a = true})) (leb-true _ _ (refl {a = true}))) (leb-true _ _ (refl {a = true})) (leb-true _ _ (refl {a = true}))

format_quotes : Figure 0 × Figure 11 × Figure 12
unfolding read_row opened one_calls one X Y by_format two_stations started after_call outcome after_all
format_quotes =
    let of = one_in_step.format_quotes in
    (format_taken_back _ (of (as_y 7) some_reply), format_late_back _ (of (as_y 6) some_reply), format_delaying_back _ (of (as_b1 100) some_reply))

format_offers : Figure 0 × Figure 11 × Figure 12
unfolding read_row opened one_calls one X Y by_format two_stations started after_call outcome after_all
format_offers =
    let of = one_in_step.format_offers in
    (format_taken_back _ (of (as_y 7) some_reply), format_late_back _ (of (as_y 6) some_reply), format_delaying_back _ (of (as_b1 100) some_reply))

-- What the next call by format never returns: an offer that is done, a quote that is late.
format_never : (◌≢◌ {A = ℕ} 0 2) × (◌≢◌ {A = ℕ} 11 9)
unfolding read_row opened one_calls one X Y by_format two_stations started after_call outcome after_all
format_never = (one_in_step.never_2 (whole (offering_format (as_y 7))), one_in_step.never_9 (whole (quoting_format (as_y 6))))

-- At 8 stations: cost 1 everywhere with due-in 10 is taken, and its tick is 10.
long_format : Figure 0 × Figure 10 × (1 ≤ 250)
unfolding read_row opened long_calls long order by_format all_stations started after_call outcome after_all
long_format =
    let offer = long_in_step.format_offers (small 10) some_reply in
    let quote = long_in_step.format_quotes (small 10) some_reply in
    let asked = (offer.done.only refl).0 in
    (quote.done.if (quote.done.only refl), offer.tick refl, asked.given.moving 8 (omega arith) (omega arith))
