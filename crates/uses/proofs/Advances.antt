-- A use of what advance returns and leaves, and of when an order may start first, on definite images.
use mathlib.Core.Path.{◌≡◌, refl, ap, ◌∙◌}
use mathlib.Core.Bool.{true}
use mathlib.Core.List.Memᴰ
use mathlib.Core.List.{[], ◌∷◌, ◌++◌}
use Prim.Native.Nat.{◌≤◌, ◌<◌}
use native.Mathlib.Omega.{arith}
use lib.ListN.{get_or, replicate}
use borrow.Author.Tests.{leb-true, eqb-false}
use Rattle.model.specs.declared.Order.{Order}
use Rattle.model.specs.declared.Service.{Service}
use Rattle.model.specs.Lists.{at}
use Rattle.model.specs.State.{State}
use Rattle.model.specs.Tick.{starts}
use Rattle.model.specs.Image.{decode}
use Rattle.model.specs.Admission.{block_of, arrival}
use Rattle.model.specs.Calls.{advance_call}
use Rattle.model.specs.Runs.{started, outcome, after_call, after_all}
use Rattle.model.specs.Table.{read_row}
use Rattle.model.specs.Cases.{order, X}
use Rattle.model.specs.FormatCases.{by_format}
use Rattle.schedule.specs.Valid.{Busy}
use Rattle.schedule.specs.Starts.{AtStart}
use Rattle.image_laws.specs.Usable.{Usable}
use Rattle.call_laws.specs.AdvanceExact.{ExactAt}
use Rattle.claims.specs.Images.{TickAsAsked, TimelyAt}
use Rattle.claims.proofs.Claims.{claims}
use Rattle.uses.specs.DefiniteLists.{some_image, some_reply, opened, one_calls, one, long_calls, long, all_stations, eight_format_calls, P, end_image}
use Rattle.uses.proofs.DefiniteLists.{eight_formats_allowed}
use Rattle.uses.proofs.Words.{Figure, Bytes, Yes, of_one, all_bytes}
use Rattle.uses.proofs.ByHistory.{one_allowed, long_allowed}
use Rattle.uses.proofs.Offers.{one_bytes, one_usable}

-- ---- 0 while the clock has not come to its end, and 13 once it has
at_one : ExactAt one.image some_reply (decode one.image)
at_one = claims.advance_numbers one.image some_reply

done : Figure 16 × Figure 2128 × Yes × Yes × (1 < 4000000000)
unfolding read_row opened one_calls one end_image X started after_call outcome after_all
done = let t = at_one.done.only refl in (t.0.reply_whole, t.0.image_whole, t.0.image_marked, t.0.image_sound, t.1)

done_back : Figure 0
unfolding read_row opened one_calls one end_image X started after_call outcome after_all
done_back = at_one.done.if (one_usable, leb-true _ _ (refl {a = true}))

-- Nobody is out, the clock is 2.
given : Bytes (replicate 8 0 ++ (2 ∷ replicate 7 0))
unfolding read_row opened one_calls one end_image X started after_call outcome after_all
given = at_one.given refl

at_end_lem : ExactAt end_image some_reply (decode end_image)
at_end_lem = claims.advance_numbers end_image some_reply

end_usable : Usable end_image some_reply
unfolding read_row opened one_calls one end_image X started after_call outcome after_all
end_usable = record { reply_whole = refl; image_whole = refl {a = 2128}; image_marked = refl {a = true}; image_sound = refl {a = true} }

ended : Figure 16 × Figure 2128 × Yes × Yes × Figure 4000000000
unfolding read_row opened one_calls one end_image X started after_call outcome after_all
ended = let t = at_end_lem.ended.only refl in (t.0.reply_whole, t.0.image_whole, t.0.image_marked, t.0.image_sound, t.1)

ended_back : Figure 13
unfolding read_row opened one_calls one end_image X started after_call outcome after_all
ended_back = at_end_lem.ended.if (end_usable, refl)

-- ---- a done advance leaves a sound image that says the state after the tick
kept : Figure 2128 × (87 < 256) × Yes × Yes × Figure 2
unfolding read_row opened one_calls one end_image X started after_call outcome after_all
kept =
    let k = claims.advances_keep_sound one.image some_reply one_bytes refl in
    (k.whole, k.bytes 0, k.is_marked, k.is_sound, ap (λ (s : State). s.clock) k.says)

-- ---- an order accepted at tick 0 starts in the advance from 0 to 1, with its cost of 2 to go
once_accepted : TimelyAt (opened 2).image (decode (opened 2).image) → Figure 0 × Figure 1 × Figure 2
unfolding read_row opened one_calls one end_image X started after_call outcome after_all
once_accepted t =
    let a = t.accepted (X 9 0) some_reply refl refl (λ o m. absurd (Memᴰ.not-nil m)) in
    (a.same_clock, ap (λ (e : Service). e.ticket) a.starts_at_one, ap (λ (e : Service). e.left) a.starts_at_one)

-- The one that leaves station 1 as the clock reaches 2 starts at station 2 in the advance from 2 to 3, with its cost of 3 to go.
abbrev only : Order
only = get_or (decode one.image).orders 0 (arrival (decode one.image) (block_of []))

busy : Busy (starts (decode one.image)) 1
unfolding read_row opened one_calls one end_image X started after_call outcome after_all
busy = record { order = only; live = Memᴰ.head refl; here = refl; served = refl; some_left = leb-true _ _ (refl {a = true}); at_most = leb-true _ _ (refl {a = true}) }

once_moved : TimelyAt one.image (decode one.image) → Figure 2 × Figure 1 × Figure 3
unfolding read_row opened one_calls one end_image X started after_call outcome after_all busy
once_moved t =
    let after = decode (advance_call one.image some_reply).image in
    let m = t.moved some_reply refl 1 (omega arith) busy refl refl (of_one (λ (o : Order). o.station ≡ 2 → o.ticket ≡ 1) (get_or after.orders 0 only) (λ there. refl)) in
    (m.next_clock, ap (λ (e : Service). e.ticket) m.starts_at_next, ap (λ (e : Service). e.left) m.starts_at_next)

-- Both of every image of bytes, and after every list.
timely_2 : (Figure 0 × Figure 1 × Figure 2) × (Figure 2 × Figure 1 × Figure 3)
unfolding read_row opened one_calls one end_image X started after_call outcome after_all
timely_2 =
    (once_accepted (claims.timely (opened 2).image (all_bytes (opened 2).image (refl {a = true}))), once_moved (claims.timely one.image one_bytes))

timely_after_lists : (Figure 0 × Figure 1 × Figure 2) × (Figure 2 × Figure 1 × Figure 3)
unfolding read_row opened one_calls one end_image X started after_call outcome after_all
timely_after_lists =
    let of = claims.timely_over_runs 2 (omega arith) (omega arith) some_image refl some_reply refl in
    (once_accepted (of [] tt), once_moved (of one_calls one_allowed))

-- ---- N = 8: an order of cost 1 everywhere
abbrev alone : Order
alone = get_or (decode long.image).orders 0 (arrival (decode long.image) (block_of []))

-- In the second advance station 2 starts the order that has left station 1, and the clock is 2 after it.
long_ticks : TickAsAsked long.image some_reply (decode long.image)
unfolding read_row opened long_calls long order started after_call outcome after_all
long_ticks = claims.ticks_over_runs 8 (omega arith) (omega arith) some_image refl some_reply refl long_calls long_allowed some_reply refl

long_clock : Figure 2
unfolding read_row opened long_calls long order started after_call outcome after_all
long_clock = long_ticks.clock_after

-- After a list with an order by format: the ninth advance gives ticket 2, which is out by it, and the clock is 9.
after_formats : Figure 9 × Figure 2
unfolding read_row opened eight_format_calls order by_format all_stations started after_call outcome after_all
after_formats =
    let ticks = claims.ticks_over_runs 8 (omega arith) (omega arith) some_image refl some_reply refl eight_format_calls eight_formats_allowed some_reply refl in
    (ticks.clock_after, ticks.ticket_given)

long_starts : Figure 1 × Figure 1
unfolding read_row opened long_calls long order started after_call outcome after_all
long_starts = go (long_ticks.each_starts 2)
  where
    go : AtStart (decode long.image) 2 → Figure 1 × Figure 1
    go (AtStart.rests free nobody stays) = absurd (nobody alone (record { live = Memᴰ.head refl; here = refl; unserved = eqb-false 0 1 refl }))
    go (AtStart.goes_on w same) = absurd (let less : 1 ≤ 0 = w.some_left in let z : ⊥ = omega (arith, less) in z)
    go (AtStart.begins free o b) =
        let is = of_one (λ (x : Order). x ≡ alone) alone refl o b.waits.live in
        (ap (λ (e : Service). e.ticket) b.entry ∙ ap (λ (x : Order). x.ticket) is, ap (λ (e : Service). e.left) b.entry ∙ ap (λ (x : Order). at 0 x.costs 2) is)

-- Accepted at tick 0, it starts in the advance from 0 to 1; and as it leaves station 2 with the clock at 2, at station 3 in the advance from 2 to 3.
long_busy : Busy (starts (decode long.image)) 2
unfolding read_row opened long_calls long order started after_call outcome after_all
long_busy = record { order = alone; live = Memᴰ.head refl; here = refl; served = refl; some_left = leb-true _ _ (refl {a = true}); at_most = leb-true _ _ (refl {a = true}) }

long_timely : (Figure 0 × Figure 1 × Figure 1) × (Figure 2 × Figure 1 × Figure 1)
unfolding read_row opened long_calls long order P started after_call outcome after_all long_busy
long_timely =
    let of = claims.timely_over_runs 8 (omega arith) (omega arith) some_image refl some_reply refl in
    let after = decode (advance_call long.image some_reply).image in
    let a = (of [] tt).accepted (P 10) some_reply refl refl (λ o m. absurd (Memᴰ.not-nil m)) in
    let m = (of long_calls long_allowed).moved some_reply refl 2 (omega arith) long_busy refl refl (of_one (λ (o : Order). o.station ≡ 3 → o.ticket ≡ 1) (get_or after.orders 0 alone) (λ there. refl)) in
    ((a.same_clock, ap (λ (e : Service). e.ticket) a.starts_at_one, ap (λ (e : Service). e.left) a.starts_at_one), (m.next_clock, ap (λ (e : Service). e.ticket) m.starts_at_next, ap (λ (e : Service). e.left) m.starts_at_next))
