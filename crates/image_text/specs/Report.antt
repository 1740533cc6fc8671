-- The text that `inspect` prints of an image: the number that the questions of document 01 give it, and what the image says. Every word of the text
-- stands here, and a line feed ends each line.
use Rattle.std.specs.Prelude.{cond, List, [], ◌++◌, map, ℕ, eqb, take}
use Prim.Native.String.{String}
use Rattle.model.specs.declared.Order.{Order}
use Rattle.model.specs.declared.Service.{Service}
use Rattle.model.specs.Lists.{concat, numbered}
use Rattle.model.specs.State.{State}
use Rattle.model.specs.Soundness.{is_idle}
use Rattle.text.specs.Ascii.{ascii}
use Rattle.text.specs.Decimal.{decimal}

abbrev pub line_feed : List ℕ
line_feed = ascii "\n"

-- A word and a number; as a line of its own.
abbrev pub figure : String → ℕ → List ℕ
figure word v = ascii word ++ decimal v

abbrev pub figure_line : String → ℕ → List ℕ
figure_line word v = figure word v ++ line_feed

-- Numbers, each after a space.
unfoldable pub spaced : List ℕ → List ℕ
spaced vs = concat (map (figure " ") vs)

-- `station 2 ticket 7 left 3`, or `station 2 idle`
unfoldable pub service_words : Service → List ℕ
service_words e = cond (is_idle e) (ascii " idle") (figure " ticket " e.ticket ++ figure " left " e.left)

unfoldable pub station_line : ℕ → Service → List ℕ
station_line k e = figure "station " k ++ service_words e ++ line_feed

-- `order 7 accepted 5 due 25 sum 5 station 2 ranks 0 0 costs 2 3 maxima 2 3`: of ranks, costs and maxima those of the n stations.
unfoldable pub order_ticks : ℕ → ℕ → ℕ → List ℕ
order_ticks ticket accepted due = figure "order " ticket ++ figure " accepted " accepted ++ figure " due " due

unfoldable pub order_figures : Order → List ℕ
order_figures o = order_ticks o.ticket o.accepted o.due ++ figure " sum " o.sum ++ figure " station " o.station

unfoldable pub order_costs : ℕ → Order → List ℕ
order_costs n o = ascii " costs" ++ spaced (take n o.costs) ++ (ascii " maxima" ++ spaced (take n o.maxima))

unfoldable pub order_line : ℕ → Order → List ℕ
order_line n o = order_figures o ++ (ascii " ranks" ++ spaced (take n o.ranks)) ++ order_costs n o ++ line_feed

-- What a sound image says: the head, a line for each of its n stations, a line for each live order.
unfoldable pub head_lines : ℕ → ℕ → ℕ → List ℕ
head_lines n clock next = figure_line "stations " n ++ figure_line "clock " clock ++ figure_line "next " next

unfoldable pub station_lines : List Service → List ℕ
station_lines services = concat (numbered station_line 1 services)

unfoldable pub order_lines : ℕ → List Order → List ℕ
order_lines n orders = concat (map (order_line n) orders)

unfoldable pub state_report : State → List ℕ
state_report s =
    head_lines s.n s.clock s.next ++ station_lines (take s.n s.services) ++ order_lines s.n s.orders

-- Which clause of "Sound means" an image breaks, by the clause's name.
unfoldable pub clause_line : List ℕ → List ℕ
clause_line name = ascii "clause " ++ name ++ line_feed

-- The whole text, by the number: 0 of a sound image, 4 of one that breaks a clause; another number stands alone.
unfoldable pub report : ℕ → List ℕ → State → List ℕ
report number clause s =
    figure_line "number " number
    ++ cond (eqb number 0) (state_report s) (cond (eqb number 4) (clause_line clause) [])
