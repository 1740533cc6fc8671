use mathlib.Core.Path.{◌≡◌, ap, ◌∙◌}
use Prim.Native.Nat.{◌<◌}
use native.Mathlib.Omega.{arith}
use lib.ListN.{length, get_or, take}
use lib.Seq.{take_all, length-take-le}
use Rattle.model.specs.Lists.{numbered}
use Rattle.lists.proofs.Tests.{all-at, length-numbered}
use Rattle.plan_core.specs.Ranged.{ranged}
use Rattle.plan_core.specs.Figures.{figure_at, figures_of}
use Rattle.plan_core.proofs.figures.Numbered.{numbered_next}
use Rattle.plan_core.proofs.table.Rows.{none, Ranges, ranges}
use Rattle.plan_core.proofs.table.Table.figures.Goals as goal

pub loop-i-init : goal.loop-i-init
unfolding numbered
loop-i-init c = c.new-figures.ensures

pub overflow_add-base : goal.overflow_add-base
overflow_add-base c =
    let lent = c.as_slice-row-items.ensures.value in
    let table = c.args.self.now in
    let less : c.loop-i.i < length table.rows.items = omega (arith, ap length lent) in
    let known : Ranges (get_or table.rows.items c.loop-i.i none) = ranges _ (all-at ranged none table.rows.items c.loop-i.i less table.ranged) in
    rw lent (omega (arith, known.cost_high, table.stages_high))

pub response-response-requires : goal.response-response-requires
response-response-requires c =
    let lent = c.as_slice-row-items.ensures.value in
    let table = c.args.self.now in
    let less : c.loop-i.i < length table.rows.items = omega (arith, ap length lent) in
    let known : Ranges (get_or table.rows.items c.loop-i.i none) = ranges _ (all-at ranged none table.rows.items c.loop-i.i less table.ranged) in
    rw lent (omega (arith, known.deadline_high, known.period_high))

pub push-requires : goal.push-requires
push-requires c =
    let rows = c.args.self.now.rows.items in
    let lent = c.as_slice-row-items.ensures in
    let i = c.loop-i.i in
    let less : i < length rows = omega (arith, ap length lent.value) in
    let long : length c.loop-i.figures.items ≡ i =
    ap length c.loop-i.invariant ∙ length-numbered (figure_at rows c.args.self.now.stages) 0 (take i rows) ∙ length-take-le i rows (omega arith) in
    (omega arith, omega (arith, long, lent.fits))

pub loop-i-preserved : goal.loop-i-preserved
unfolding figure_at
loop-i-preserved c =
    let rows = c.args.self.now.rows.items in
    let lent = c.as_slice-row-items.ensures.value in
    let less : c.loop-i.i < length rows = omega (arith, ap length lent) in
    rw (c.push.ensures.items, c.loop-i.invariant, numbered_next (figure_at rows c.args.self.now.stages) none rows c.loop-i.i less, c.response-response.ensures, lent)

pub returns : goal.returns
unfolding figures_of
returns c =
    let rows = c.args.self.now.rows.items in
    c.loop-i.invariant ∙ rw (take_all c.loop-i.i rows (omega (arith, ap length c.as_slice-row-items.ensures.value)))
