use mathlib.Core.Path.{◌≡◌, ◌∙◌}
use native.Mathlib.Omega.{arith}
use Rattle.image_text.proofs.first_flaw.RecordLaws.{tested_none, tested_more}
use Rattle.image_text.proofs.first_flaw.all_tested.Goals as goal

pub loop-i-init : goal.loop-i-init
loop-i-init c = tested_none _ _ _

pub loop-i-preserved : goal.loop-i-preserved
loop-i-preserved c = c.bitand-tests.ensures ∙ rw (c.tested.ensures, c.order_at.ensures, c.loop-i.invariant) (tested_more _ _ _ _)

pub returns : goal.returns
returns c =
    let e : c.loop-i.i ≡ c.args.counted.live = omega arith in
    rw e at c.loop-i.invariant
