-- Definite lists of calls as demand 3 has them, and the runs after them. X and Y are document 01's orders.
use Rattle.std.specs.Prelude.{List, [], ◌∷◌, ℕ, ◌-◌, take, replicate}
use Rattle.model.specs.State.{fresh}
use Rattle.model.specs.Layout.{image_size, reply_size}
use Rattle.model.specs.Image.{encode}
use Rattle.model.specs.Calls.{Call, opening, quoting, offering, quoting_format, offering_format, advancing}
use Rattle.model.specs.Runs.{Lent, Run, started, after_all}
use Rattle.model.specs.Table.{lent}
use Rattle.model.specs.Cases.{order, X, Y}
use Rattle.model.specs.FormatCases.{sheet_of, by_format, two_stations}

-- The buffers that are lent to the opening call, and the run after it.
abbrev pub some_image : List ℕ
some_image = replicate image_size 165

abbrev pub some_reply : List ℕ
some_reply = lent reply_size

unfoldable pub opened : ℕ → Run
opened n = started some_image n some_reply

abbrev pub with_reply : ℕ → Call → Lent
with_reply size call = record { call = call; reply = lent size }

abbrev pub whole : Call → Lent
whole call = with_reply reply_size call

abbrev pub ticks : ℕ → List Lent
ticks count = replicate count (whole advancing)

-- N = 2. "X, due-in 20, at 0", an open with a reply of a byte less, an open with N = 9, a late quote, "then Y at 0, due-in 7", and seven advances: "X is out at
-- 5, Y at 7."
unfoldable pub mixed_calls : List Lent
mixed_calls =
    whole (offering (X 20 0)) ∷ with_reply (reply_size - 1) (opening 3) ∷ whole (opening 9) ∷ whole (quoting (Y 6 5)) ∷ whole (offering (Y 7 5)) ∷ ticks 7

-- "as the first two but X rank 5, Y rank 0: Y out at 3, X at 6."
unfoldable pub reversed_calls : List Lent
reversed_calls = whole (offering (X 20 5)) ∷ whole (offering (Y 7 0)) ∷ ticks 6

-- As the first two, and one advance: X is in service at station 1 with one tick to go, and Y waits there.
unfoldable pub halfway_calls : List Lent
halfway_calls = whole (offering (X 20 0)) ∷ whole (offering (Y 7 5)) ∷ ticks 1

-- N = 8, two orders of cost 1 at every station, due-in 9, and eight advances: the first is out at 8; the second waits at station 8, and has the bound 9, on
-- which it is due.
unfoldable pub eight_calls : List Lent
unfolding order
eight_calls = whole (offering (order 9 0 (replicate 8 1))) ∷ whole (offering (order 9 1 (replicate 8 1))) ∷ ticks 8

-- N = 2, for a log: X is accepted; Y with due-in 6 gets 11, and a cost of 0 gets 6. A reply of a byte less, a block of a byte less, a cost beyond N and an
-- advance with a reply of a byte less have no line. Then one advance.
unfoldable pub logged_calls : List Lent
unfolding order
logged_calls =
    whole (offering (X 20 0)) ∷ whole (offering (Y 6 5)) ∷ whole (offering (order 20 0 (0 ∷ 1 ∷ []))) ∷ with_reply (reply_size - 1) (offering (Y 7 5))
    ∷ whole (offering (take 27 (X 20 0))) ∷ whole (offering (order 20 0 (1 ∷ 1 ∷ 1 ∷ []))) ∷ with_reply (reply_size - 1) advancing ∷ ticks 1

-- N = 2, by format: A3 is X and A5 is Y (`two_stations`). A3 with due-in 20, one of no format, a late quote of A5, A5 with due-in 7, and seven advances.
unfoldable pub format_calls : List Lent
unfolding by_format two_stations
format_calls =
    whole (offering_format (by_format 3 20 0 two_stations)) ∷ whole (offering_format (by_format 11 20 0 two_stations)) ∷ whole (quoting_format (by_format 5 6 5 two_stations))
    ∷ whole (offering_format (by_format 5 7 5 two_stations)) ∷ ticks 7

-- N = 8, no fixed ticks, and 250 mm per tick everywhere: A5 has cost 1 at every station, and B2 cost 3. As `eight_calls`, the one by format and the other as a
-- block.
unfoldable pub all_stations : List ℕ
unfolding sheet_of
all_stations = sheet_of [] (replicate 8 250)

unfoldable pub eight_format_calls : List Lent
unfolding order by_format all_stations
eight_format_calls = whole (offering_format (by_format 5 9 0 all_stations)) ∷ whole (offering (order 9 1 (replicate 8 1))) ∷ ticks 8

unfoldable pub formats : Run
formats = after_all (opened 2) format_calls

unfoldable pub eight_formats : Run
eight_formats = after_all (opened 8) eight_format_calls

unfoldable pub mixed : Run
mixed = after_all (opened 2) mixed_calls

unfoldable pub reversed : Run
reversed = after_all (opened 2) reversed_calls

unfoldable pub halfway : Run
halfway = after_all (opened 2) halfway_calls

unfoldable pub eight : Run
eight = after_all (opened 8) eight_calls

-- To be offered what is taken, what is late and what would delay: N = 2, X with due-in 9, and one advance. With Y its bound is 7; Y's is 8.
unfoldable pub one_calls : List Lent
one_calls = whole (offering (X 9 0)) ∷ ticks 1

unfoldable pub one : Run
one = after_all (opened 2) one_calls

-- Costs 4 and 4: X's bound would be 11.
unfoldable pub Z : List ℕ
unfolding order
Z = order 100 0 (4 ∷ 4 ∷ [])

-- N = 8, an order of cost 1 at every station with due-in 12, and one advance. With another of these its bound is 9, with one of cost 3 it is 25.
unfoldable pub long_calls : List Lent
unfolding order
long_calls = whole (offering (order 12 0 (replicate 8 1))) ∷ ticks 1

unfoldable pub long : Run
long = after_all (opened 8) long_calls

unfoldable pub P : ℕ → List ℕ
unfolding order
P due_in = order due_in 1 (replicate 8 1)

unfoldable pub Q : List ℕ
unfolding order
Q = order 100 0 (replicate 8 3)

-- N = 2, four orders that wait at station 1. The second goes first: the first has an equal rank and is due later, the third has an equal rank, an equal due tick
-- and a larger ticket, and the fourth, which is due before all others, has a larger rank. Costs 2 and 1, 2 and 1, 1 and 1, 1 and 1. With no advance, with one,
-- and with two.
unfoldable pub waiting_calls : ℕ → List Lent
unfolding order
waiting_calls count =
    whole (offering (order 70 0 (2 ∷ 1 ∷ []))) ∷ whole (offering (order 60 0 (2 ∷ 1 ∷ []))) ∷ whole (offering (order 60 0 (1 ∷ 1 ∷ [])))
    ∷ whole (offering (order 50 1 (1 ∷ 1 ∷ []))) ∷ ticks count

unfoldable pub waiting : ℕ → Run
waiting count = after_all (opened 2) (waiting_calls count)

-- An image with the clock at its end, and no order.
unfoldable pub end_image : List ℕ
unfolding fresh encode
end_image = encode (record { n = 2; clock = 4000000000; next = 1; services = (fresh 2).services; orders = [] })
