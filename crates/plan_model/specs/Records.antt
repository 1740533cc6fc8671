-- Task records that no list gave.
use Rattle.std.specs.Prelude.{[], replicate}
use Rattle.model.specs.Limits.{max_stations}
use Rattle.plan_model.specs.declared.Task.{Task}
use Rattle.plan_model.specs.declared.Verdict.TheVariants.{OnTime, Late}

-- A record with nothing in it: what stands in an array where no task was put.
abbrev pub blank : Task
blank = record { period = 0; deadline = 0; costs = replicate max_stations 0; base = 0; response = 0; verdict = Late }

-- What is read beyond the end of a list of records: a record with no entries in its array.
abbrev pub beyond : Task
beyond = record { period = 0; deadline = 0; costs = []; base = 0; response = 0; verdict = OnTime }
