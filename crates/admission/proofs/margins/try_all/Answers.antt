use mathlib.Core.Path.{◌≡◌, sym, ap, subst, ◌∙◌}
use mathlib.Core.List.{List, map}
use Prim.Native.Nat.{ℕ, ◌<◌}
use native.Mathlib.Omega.{arith}
use lib.ListN.{length, get_or}
use lib.Seq.{take_all}
use mir.Syntax.{w32}
use mir.Facts.{to_z-of_z}
use borrow.Author.Rules.{rules}
use Rattle.model.specs.Lists.{upward}
use Rattle.model.specs.declared.Block.{Block}
use Rattle.model.specs.declared.Order.{Order}
use Rattle.model.specs.DelayBound.{bound_tick, delay_bound, margin}
use Rattle.model.specs.Admission.{joined_by}
use Rattle.lists.proofs.Fills.{map-upward, past}
use Rattle.lists.proofs.Maxima.{sum_start, maxima_start, sum_more, maxima_more}
use Rattle.lists.proofs.Tests.{upward-map}
use Rattle.image_laws.proofs.Rows.{get_d_in}
use Rattle.schedule.specs.Valid.{◌∈◌}
use Rattle.admission.specs.Margins.{MarginFits, Tryable}
use Rattle.admission.proofs.margins.LeastLaws.{lesser, smallest_start, smallest_more}
use Rattle.admission.proofs.margins.try_all.Goals as goal

-- An order that is tried is one of the list.
tried_fits : (n : ℕ) (b : Block) (orders : List Order) (i : ℕ) → ((o : Order) → o ∈ orders → Tryable n b o) → i < length orders → Tryable n b (get_or orders i past)
tried_fits n b orders i tryable h = tryable (get_or orders i past) (get_d_in orders past i h)

-- Something of every order, by their places.
by_places : {A : Type 0} (f : Order → A) (orders : List Order) → map f orders ≡ upward 0 (length orders) (λ k. f (get_or orders k past))
by_places f orders =
    ap (map f) (sym (take_all (length orders) orders (omega arith))) ∙ map-upward f past orders (length orders) (omega arith)

pub loop-o-init : goal.loop-o-init
loop-o-init c =
    record {
      short = search rules;
      long = search rules;
      sum_is = c.largest-top.ensures.0 ∙ sum_start _ _;
      maxima_is = maxima_start _ _;
      least_is = smallest_start _ _;
    }

pub returns-then-o-eq0 : goal.returns-then-o-eq0
returns-then-o-eq0 c =
    absurd (let z : ⊥ = omega (arith, c.if-o-eq0.true, (tried_fits c.args.limits.n c.args.b c.args.orders.now c.loop-o.o-index c.requires.tryable c.loop-o-test.true).named) in z)

pub joined_by-requires : goal.joined_by-requires
unfolding bound_tick delay_bound joined_by
joined_by-requires c =
    let top = c.largest-top.ensures.0 in
    (top, omega (arith, top, (tried_fits c.args.limits.n c.args.b c.args.orders.now c.loop-o.o-index c.requires.tryable c.loop-o-test.true).fits.tick))

pub of-requires : goal.of-requires
of-requires c =
    subst (MarginFits _) (sym c.joined_by.ensures) (tried_fits c.args.limits.n c.args.b c.args.orders.now c.loop-o.o-index c.requires.tryable c.loop-o-test.true).fits

pub loop-o-preserved : goal.loop-o-preserved
loop-o-preserved c =
    let inv = c.loop-o.invariant in
    let own : ℕ → List ℕ = λ j. (get_or c.args.orders.now j past).costs in
    let sum = c.largest-sum.ensures in
    let read = to_z-of_z {w = w32} {z = c.of.result.margin} (search rules) ∙ c.of.ensures.margin_is ∙ ap (margin _) c.joined_by.ensures in
    record {
      short = omega (arith, sum.1, inv.short);
      long = search rules;
      sum_is = omega (arith, sum.0, inv.sum_is, sum_more c.args.b.costs own c.loop-o.o-index);
      maxima_is = c.larger_row-wider.ensures ∙ rw inv.maxima_is (sym (maxima_more c.args.b.costs own c.loop-o.o-index));
      least_is = to_z-of_z {w = w32} (record { sfits = c.min-least.type_inv }) ∙ smallest_more _ _ _ inv.least_is read (c.min-least.ensures.value ∙ lesser _ _);
    }

pub returns-after-loop-o : goal.returns-after-loop-o
returns-after-loop-o c =
    let inv = c.loop-o.invariant in
    let orders = c.args.orders.now in
    let n = c.args.limits.n in
    let joined = joined_by c.args.b in
    let e : c.loop-o.o-index ≡ length orders = omega arith in
    let members = by_places (λ (o : Order). o.costs) orders in
    let margins = ap (map (margin n)) (by_places joined orders) ∙ upward-map (margin n) 0 (length orders) (λ k. joined (get_or orders k past)) in
    record { sum_is = inv.sum_is ∙ rw (e, members); maxima_is = inv.maxima_is ∙ rw (e, members); least_is = inv.least_is ∙ rw (e, margins) }
