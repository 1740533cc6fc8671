-- A use of demand 3, at 2 stations and at 8: of orders that are out, in service and waiting, and of each reply.
use mathlib.Core.Path.{◌≡◌, refl}
use mathlib.Core.List.Memᴰ
use mathlib.Core.List.{List}
use Prim.Native.Nat.{ℕ, ◌≤◌, ◌<◌}
use native.Mathlib.Omega.{arith}
use lib.ListN.{length}
use Rattle.model.specs.Calls.{open_call, advance_call}
use Rattle.model.specs.History.{is_at, out_at}
use Rattle.model.specs.Runs.{started, outcome, after_call, after_all}
use Rattle.model.specs.Table.{read_row}
use Rattle.model.specs.Cases.{order, X, Y}
use Rattle.model.specs.FormatCases.{by_format, two_stations}
use Rattle.claims.specs.Demand3.{Kept}
use Rattle.uses.specs.DefiniteLists.{some_image, some_reply, opened, mixed_calls, halfway_calls, eight_calls, format_calls, all_stations, eight_format_calls, formats, eight_formats, mixed, halfway, eight}
use Rattle.uses.proofs.DefiniteLists.{entry, mixed_allowed, halfway_allowed, eight_allowed, formats_allowed, eight_formats_allowed}
use Rattle.claims.proofs.Claims.{claims}
use Rattle.uses.proofs.Words.{Figure}

-- The call that is made next is an advance, with any reply of its length.
abbrev Advances : List ℕ → Type 0
Advances image = (reply : List ℕ) → length reply ≡ 16 → (advance_call image reply).number ≡ 0

-- ---- N = 2: both orders out at the end, X at 5 and Y at 7
kept_2 : Kept some_image 2 some_reply mixed_calls
kept_2 = claims.due_times 2 (omega arith) (omega arith) some_image refl some_reply refl mixed_calls (unfold opened in mixed_allowed)

opened_2 : (open_call some_image 2 some_reply).number ≡ 0
opened_2 = kept_2.opened

out_2 : ((5 ≤ 7) × (5 ≤ 20)) × ((7 ≤ 7) × (7 ≤ 7))
unfolding read_row opened mixed_calls mixed X Y started after_call outcome after_all
out_2 =
    ((kept_2.orders (entry mixed 0) (Memᴰ.head refl)).out_in_time 5 refl, (kept_2.orders (entry mixed 1) (Memᴰ.tail (Memᴰ.head refl))).out_in_time 7 refl)

-- ---- N = 2: X in service, Y waiting
halfway_2 : Kept some_image 2 some_reply halfway_calls
halfway_2 = claims.due_times 2 (omega arith) (omega arith) some_image refl some_reply refl halfway_calls (unfold opened in halfway_allowed)

live_2 : ((1 < 7) × (1 < 20) × Advances halfway.image) × ((1 < 7) × (1 < 7) × Advances halfway.image)
unfolding read_row opened halfway_calls halfway X Y started after_call outcome after_all
live_2 =
    let x = halfway_2.orders (entry halfway 0) (Memᴰ.head refl) in
    let y = halfway_2.orders (entry halfway 1) (Memᴰ.tail (Memᴰ.head refl)) in
    let below_x = x.live_in_time refl in
    let below_y = y.live_in_time refl in
    ((below_x.0, below_x.1, x.can_advance refl), (below_y.0, below_y.1, y.can_advance refl))

-- The replies of both offers and of the advance: ticket 1, ticket 2; nobody out, clock 1.
replies_2 : Figure 1 × Figure 2 × (Figure 0 × Figure 1)
unfolding read_row opened halfway_calls X Y started after_call outcome after_all is_at out_at
replies_2 = let r = halfway_2.replies in (r.0 refl, r.1.0 refl, r.1.1.0 refl)

-- ---- N = 8: the first order out at 8, the second waiting at station 8
kept_8 : Kept some_image 8 some_reply eight_calls
kept_8 = claims.due_times 8 (omega arith) (omega arith) some_image refl some_reply refl eight_calls (unfold opened in eight_allowed)

opened_8 : (open_call some_image 8 some_reply).number ≡ 0
opened_8 = kept_8.opened

orders_8 : ((8 ≤ 9) × (8 ≤ 9)) × ((8 < 9) × (8 < 9) × Advances eight.image)
unfolding read_row opened eight_calls eight order started after_call outcome after_all
orders_8 =
    let second = kept_8.orders (entry eight 1) (Memᴰ.tail (Memᴰ.head refl)) in
    let below = second.live_in_time refl in
    ((kept_8.orders (entry eight 0) (Memᴰ.head refl)).out_in_time 8 refl, (below.0, below.1, second.can_advance refl))

-- The eighth advance gave ticket 1 and clock 8.
advance_8 : Figure 1 × Figure 8
unfolding read_row opened eight_calls order started after_call outcome after_all is_at out_at
advance_8 = kept_8.replies.1.1.1.1.1.1.1.1.1.0 refl

-- ---- by format: N = 2, both orders out; N = 8, one out and one live
formats_2 : Kept some_image 2 some_reply format_calls
formats_2 = claims.due_times 2 (omega arith) (omega arith) some_image refl some_reply refl format_calls (unfold opened in formats_allowed)

format_out_2 : ((5 ≤ 7) × (5 ≤ 20)) × ((7 ≤ 7) × (7 ≤ 7))
unfolding read_row opened format_calls formats by_format two_stations started after_call outcome after_all
format_out_2 =
    ((formats_2.orders (entry formats 0) (Memᴰ.head refl)).out_in_time 5 refl, (formats_2.orders (entry formats 1) (Memᴰ.tail (Memᴰ.head refl))).out_in_time 7 refl)

-- The replies of both offers: ticket 1, ticket 2.
format_replies_2 : Figure 1 × Figure 2
unfolding read_row opened format_calls by_format two_stations started after_call outcome after_all is_at out_at
format_replies_2 = let r = formats_2.replies in (r.0 refl, r.1.1.1.0 refl)

formats_8 : Kept some_image 8 some_reply eight_format_calls
formats_8 = claims.due_times 8 (omega arith) (omega arith) some_image refl some_reply refl eight_format_calls (unfold opened in eight_formats_allowed)

format_orders_8 : ((8 ≤ 9) × (8 ≤ 9)) × ((8 < 9) × (8 < 9) × Advances eight_formats.image)
unfolding read_row opened eight_format_calls eight_formats order by_format all_stations started after_call outcome after_all
format_orders_8 =
    let second = formats_8.orders (entry eight_formats 1) (Memᴰ.tail (Memᴰ.head refl)) in
    let below = second.live_in_time refl in
    ((formats_8.orders (entry eight_formats 0) (Memᴰ.head refl)).out_in_time 8 refl, (below.0, below.1, second.can_advance refl))

format_reply_8 : Figure 1
unfolding read_row opened eight_format_calls order by_format all_stations started after_call outcome after_all
format_reply_8 = formats_8.replies.0 refl
