-- The figures of a log.
use Rattle.std.specs.Prelude.{ℕ}

-- Document 02, (iv): "a value too large for its field": due-in, number and ticket have 32 bits, a cost 16, a rank 8.
abbrev pub most8 : ℕ
most8 = 255

abbrev pub most16 : ℕ
most16 = 65535

abbrev pub most32 : ℕ
most32 = 4294967295

-- A line of the form is shorter: its letter and at most 19 numbers, of at most ten digits each, with a space before each.
abbrev pub max_line : ℕ
max_line = 220

-- Lines are counted in 64 bits.
abbrev pub last_line : ℕ
last_line = 18446744073709551615
