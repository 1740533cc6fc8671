-- What a line records, as code has it: the ranks and the costs of an order as its block has them.
use Rattle.std.specs.Prelude.{Option, Some, None, cond, List, ℕ}
use Rattle.log_model.specs.Lines.{Line, offered, advanced, to_eight, is_stations, stations_of, line_of}
use Rattle.log_model.specs.Output.{is_call}
use Rattle.log_lines.specs.declared.fields.Recorded.{Recorded}
use Rattle.log_lines.specs.declared.fields.Recorded.TheVariants.{Offered, Advanced}

abbrev pub record_of : Line → Recorded
record_of (offered due_in ranks costs number ticket) = Offered (record { due_in = due_in; ranks = to_eight ranks; costs = to_eight costs }) number ticket
record_of (advanced ticket) = Advanced ticket

-- That of a line of a call, and the station count of a first line, where they have the form.
unfoldable pub call_in : ℕ → List ℕ → Option Recorded
call_in n line = cond (is_call n line) (Some (record_of (line_of n line))) None

unfoldable pub stations_in : List ℕ → Option ℕ
stations_in line = cond (is_stations line) (Some (stations_of line)) None

-- A line that records it. Its ranks and costs are eight, so it is the line that was read only up to the zeros after those; but the call is the same.
abbrev pub line_as : Recorded → Line
line_as (Offered order number ticket) = offered order.due_in order.ranks order.costs number ticket
line_as (Advanced ticket) = advanced ticket
