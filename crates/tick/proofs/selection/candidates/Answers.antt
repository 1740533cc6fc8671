-- The order that is tried has a ticket and is at one of the stations.
use Rattle.std.proofs.Common.{rules, sym, ◌∙◌}
use Rattle.tick.proofs.selection.CandidateLaws.{default_nobody, none_tried, all_tried, last_placed, last_below, one_goes, one_stays, one_passed}
use Rattle.tick.proofs.selection.candidates.Goals as goal

pub loop-o-init : goal.loop-o-init
loop-o-init c = (tt, tt, rw (default_nobody c.default-found.ensures) (none_tried (search rules) (search rules)))

pub overflow_sub-k : goal.overflow_sub-k
overflow_sub-k c =
    let there = last_placed (search rules) c.requires.placed c.loop-o.invariant.2 _ _ c.in-Some.ensures.steps in
    there.low

pub bounds-services-k : goal.bounds-services-k
bounds-services-k c = last_below (search rules) c.requires.placed c.loop-o.invariant.2 _ _ c.in-Some.ensures.steps

pub candidate_at-c-requires : goal.candidate_at-c-requires
candidate_at-c-requires c = last_below (search rules) c.requires.placed c.loop-o.invariant.2 _ _ c.in-Some.ensures.steps

pub bounds-found-k : goal.bounds-found-k
bounds-found-k c = last_below (search rules) c.requires.placed c.loop-o.invariant.2 _ _ c.in-Some.ensures.steps

pub bounds-found-k-then-goes_first : goal.bounds-found-k-then-goes_first
bounds-found-k-then-goes_first c = last_below (search rules) c.requires.placed c.loop-o.invariant.2 _ _ c.in-Some.ensures.steps

pub loop-o-preserved-then-goes_first : goal.loop-o-preserved-then-goes_first
loop-o-preserved-then-goes_first c =
    (tt, tt, one_goes (search rules) c.requires.placed c.loop-o.invariant.2 _ _ c.in-Some.ensures.steps (sym c.is_idle.ensures ∙ c.if-is_idle.true) c.candidate_at-c.ensures (sym c.goes_first.ensures ∙ c.if-goes_first.true))

pub loop-o-preserved-else-goes_first : goal.loop-o-preserved-else-goes_first
loop-o-preserved-else-goes_first c =
    (tt, tt, one_stays (search rules) c.requires.placed c.loop-o.invariant.2 _ _ c.in-Some.ensures.steps (sym c.is_idle.ensures ∙ c.if-is_idle.true) c.candidate_at-c.ensures (sym c.goes_first.ensures ∙ c.if-goes_first.false))

pub loop-o-preserved : goal.loop-o-preserved
loop-o-preserved c =
    (tt, tt, one_passed (search rules) c.requires.placed c.loop-o.invariant.2 _ _ c.in-Some.ensures.steps (sym c.is_idle.ensures ∙ c.if-is_idle.false))

pub returns : goal.returns
returns c = all_tried (search rules) c.loop-o.invariant.2 c.in-None.ensures.steps.0
