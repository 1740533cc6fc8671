-- The figures of "The standing table" that are its own; those of stations and costs are the model's.
use Rattle.std.specs.Prelude.{ℕ, ◌+◌}
use Rattle.model.specs.Limits.{max_stations}

-- "period 1 to 60,000"
abbrev pub max_period : ℕ
max_period = 60000

-- "one to 32 task lines"; "a count outside 1 to 32"
abbrev pub max_tasks : ℕ
max_tasks = 32

-- "input at most 16,384 bytes"
abbrev pub max_input : ℕ
max_input = 16384

-- "`period deadline cost1 .. costN`": two numbers more than there are stations.
abbrev pub max_numbers : ℕ
max_numbers = 2 + max_stations

-- "unsigned decimals of 1 to 9 digits"
abbrev pub max_digits : ℕ
max_digits = 9
