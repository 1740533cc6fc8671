-- The live orders are tried, and what comes out decides.
use borrow.Author.Rules.{rules}
use mathlib.Core.Path.{sym, subst, ◌∙◌}
use Prim.Native.Nat.{◌≤◌}
use native.Mathlib.Omega.{arith}
use lib.Seq.{length-take-le}
use mir.Syntax.{w32}
use mir.Facts.{to_z-of_z}
use Rattle.std.proofs.lemmas.Result.{err_from_is_err_and}
use Rattle.image.specs.Pipeline.{listed}
use Rattle.admission.specs.OrderQuestions.{Decides}
use Rattle.image.proofs.Carried.{few}
use Rattle.admission.proofs.order_questions.PipelineLaws.{arrival_tried, live_tried, arrival_is, others_are}
use Rattle.admission.proofs.order_questions.FitLaws.{margin_fits}
use Rattle.admission.proofs.order_questions.TryLaws.{decides}
use Rattle.admission.proofs.order_questions.OfferLaws.{accepts, declines}
use Rattle.admission.proofs.order_questions.answered.Goals as goal

pub new-limits-requires : goal.new-limits-requires
unfolding listed
new-limits-requires c =
    let facts = c.requires.sound_pipeline.sound.facts in
    (omega (arith, c.from.ensures, facts.n_low), omega (arith, c.from.ensures, facts.n_high))

pub slice_bounds-orders-end : goal.slice_bounds-orders-end
slice_bounds-orders-end c = omega (arith, c.from-count.ensures, few c.requires.sound_pipeline)

pub slice_bounds-try_all-end : goal.slice_bounds-try_all-end
slice_bounds-try_all-end c =
    let short : c.from-count.result ≤ 32 = omega (arith, c.from-count.ensures, few c.requires.sound_pipeline) in
    sym (length-take-le c.from-count.result c.args.p.orders (omega (arith, short)))

pub try_all-tried-requires : goal.try_all-tried-requires
unfolding listed
try_all-tried-requires c =
    let n_is = c.new-limits.ensures ∙ c.from.ensures in
    let short : c.from-count.result ≤ 32 = omega (arith, c.from-count.ensures, few c.requires.sound_pipeline) in
    record {
      few = omega (arith, short, length-take-le c.from-count.result c.args.p.orders (omega (arith, short)));
      tryable = live_tried c.requires.sound_pipeline c.requires.fitting n_is c.from-count.ensures;
    }

pub arrival-arrival-requires : goal.arrival-arrival-requires
unfolding listed
arrival-arrival-requires c = c.requires.fitting.due_tick

pub decide-requires : goal.decide-requires
unfolding listed
decide-requires c =
    let n_is = c.new-limits.ensures ∙ c.from.ensures in
    let is_arrival = c.arrival-arrival.ensures ∙ arrival_is _ _ n_is c.from-count.ensures c.try_all-tried.ensures in
    arrival_tried c.requires.sound_pipeline c.requires.fitting n_is is_arrival

pub returns-in_err-figures : goal.returns-in_err-figures
unfolding listed
returns-in_err-figures c =
    let n_is = c.new-limits.ensures ∙ c.from.ensures in
    let is_arrival = c.arrival-arrival.ensures ∙ arrival_is _ _ n_is c.from-count.ensures c.try_all-tried.ensures in
    let fits = arrival_tried c.requires.sound_pipeline c.requires.fitting n_is is_arrival in
    let is = rw (n_is, is_arrival, to_z-of_z {w = w32} {z = c.try_all-tried.result.least} (search rules)) at c.in_err-figures.ensures in
    let own = margin_fits _ _ (rw (n_is, is_arrival) at fits) in
    let p = err_from_is_err_and c.from_residual.result c.from_residual.ensures.1 in
    rw (p.1, p.2) (declines (subst (Decides _ _ _) (sym is) (decides _ _ _ (others_are _ _ n_is c.from-count.ensures c.try_all-tried.ensures) own)))

pub returns : goal.returns
unfolding listed
returns c =
    let n_is = c.new-limits.ensures ∙ c.from.ensures in
    let is_arrival = c.arrival-arrival.ensures ∙ arrival_is _ _ n_is c.from-count.ensures c.try_all-tried.ensures in
    let fits = arrival_tried c.requires.sound_pipeline c.requires.fitting n_is is_arrival in
    let is = rw (n_is, is_arrival, to_z-of_z {w = w32} {z = c.try_all-tried.result.least} (search rules)) at c.in_ok-figures.ensures in
    let own = margin_fits _ _ (rw (n_is, is_arrival) at fits) in
    accepts (subst (Decides _ _ _) (sym is) (decides _ _ _ (others_are _ _ n_is c.from-count.ensures c.try_all-tried.ensures) own)) is_arrival
