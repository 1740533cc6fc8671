-- The number first; then decode and encode say the rest.
use mathlib.Core.Path.{ap, ◌∙◌}
use native.Mathlib.Omega.{arith}
use Rattle.model.specs.Image.{encode}
use Rattle.image.specs.declared.pipeline.Pipeline.{Pipeline}
use Rattle.image.specs.Pipeline.{listed}
use Rattle.image.proofs.pipeline.TwoForms.{listed_padded, live_decoded}
use Rattle.probe.proofs.images.RecodeLaws.{recode_length, recode_live, recode_done}
use Rattle.probe.proofs.images.probe_recode.Goals as goal

pub returns-in_default : goal.returns-in_default
returns-in_default c = record { number_is = c.from.ensures ∙ recode_length _ c.in_default.ensures.cases; image_is = rw c.from.ensures }

pub returns-then-whole-gt-MAX_LIVE : goal.returns-then-whole-gt-MAX_LIVE
returns-then-whole-gt-MAX_LIVE c =
    let whole = c.in-Some.ensures.cases in
    let declined = c.from-then-whole-gt-MAX_LIVE.ensures in
    record { number_is = declined ∙ recode_live _ whole.long (rw whole.same at c.if-whole-gt-MAX_LIVE.true); image_is = rw (declined, whole.same) }

pub encode-requires : goal.encode-requires
encode-requires c =
    let live = ap (λ (p : Pipeline). p.live) c.decode-p.ensures ∙ live_decoded _ in
    omega (arith, live)

pub returns : goal.returns
returns c =
    let whole = c.in-Some.ensures.cases in
    record {
      number_is = recode_done _ whole.long (rw whole.same at c.if-whole-gt-MAX_LIVE.false);
      image_is = c.encode.ensures ∙ ap encode (ap listed c.decode-p.ensures ∙ listed_padded _) ∙ rw whole.same;
    }
