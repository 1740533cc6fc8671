-- The figures of documents 01 and 02, each named once.
use Rattle.std.specs.Prelude.{ℕ}

-- "A cabinet has N stations, 1 to 8"
abbrev pub max_stations : ℕ
max_stations = 8

-- "a cost in ticks (1 to 6,000)"
abbrev pub max_cost : ℕ
max_cost = 6000

-- "Its due-in is 1 to 60,000 ticks"
abbrev pub max_due_in : ℕ
max_due_in = 60000

-- Document 02, (iii): "Due-in 0 is to stand for 9,000 ticks."
abbrev pub default_due_in : ℕ
default_due_in = 9000

-- "At most 32 orders are live."
abbrev pub max_live : ℕ
max_live = 32

-- Document 02, (i): "Formats are numbered 1 to 10 in that order"
abbrev pub max_format : ℕ
max_format = 10

-- The last tick of the clock and of a due tick.
abbrev pub last_tick : ℕ
last_tick = 4000000000

-- The last ticket: "next ticket (4), 0 when none is left", so the largest number of four bytes.
abbrev pub last_ticket : ℕ
last_ticket = 4294967295
