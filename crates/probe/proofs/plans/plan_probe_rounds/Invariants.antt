-- Number and records after the rounds so far.
use mathlib.Core.Path.{◌≡◌}
use Rattle.probe.specs.Rounds.{tasks_after, last_number}
use Rattle.probe.proofs.plans.plan_probe_rounds.Given as goal

abbrev pub invariant-loop : goal.invariant-loop
invariant-loop l =
    (l.number ≡ last_number l.counter (record { n = l.n; count = l.count; tasks = l.initial.tasks }))
    × (l.tasks ≡ tasks_after l.counter (record { n = l.n; count = l.count; tasks = l.initial.tasks }))
