-- One order more: at a station of the eight, or at none of them. There are no more than 32 records.
use mathlib.Core.Path.{◌∙◌}
use native.Mathlib.Omega.{arith}
use borrow.Author.Rules.{rules}
use Rattle.model.specs.Limits.{max_stations}
use Rattle.image_laws.proofs.Tests.{within_says}
use Rattle.log_lines.proofs.counts.CountLaws.{occupied_none, record_at, record_away, all_records}
use Rattle.log_lines.proofs.counts.occupied.Goals as goal
use Rattle.log_lines.proofs.counts.occupied.Goals.{then-station, else-station}

pub loop-i-init : goal.loop-i-init
loop-i-init c = occupied_none _

pub overflow_sub-here : goal.overflow_sub-here
overflow_sub-here c = omega (arith, (within_says 1 max_stations c.from-station.result).tells c.if-station.true)

pub bounds-here-station : goal.bounds-here-station
bounds-here-station c = omega (arith, (within_says 1 max_stations c.from-station.result).tells c.if-station.true)

pub loop-i-preserved : goal.loop-i-preserved
loop-i-preserved c =
    let image = c.args.image.now in
    let i = c.loop-i.i in
    let at = record_at image i c.from-station.result _ (search rules) c.loop-i.invariant in
    let away = record_away image i c.from-station.result _ (search rules) c.loop-i.invariant in
    elim c.if-station.branch [ then-station w ↦ w.here-is ∙ at w.if-station.true | else-station w ↦ w.here-is ∙ away w.if-station.false ]

pub returns : goal.returns
returns c = c.loop-i.invariant ∙ all_records c.args.image.now c.loop-i.i (search rules) (search rules)
