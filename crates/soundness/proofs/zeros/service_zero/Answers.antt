-- The two bytes read as one number are those of the part.
use native.Mathlib.Omega.{arith}
use mathlib.Core.Path.{sym, ap, ◌∙◌}
use Prim.Native.Nat.{◌+◌, ◌*◌}
use Rattle.model.specs.Lists.{is_zero, all}
use Rattle.model.specs.Layout.{services_at, service_size, service_zero_at}
use Rattle.soundness.proofs.Parts.{part_part, zero_half}
use Rattle.soundness.proofs.zeros.service_zero.Goals as goal

pub returns : goal.returns
returns c =
    let image = c.args.image.now in
    let at = services_at + service_size * c.args.i in
    ap is_zero c.u16_at.ensures
    ∙ zero_half image (at + service_zero_at) (omega arith)
    ∙ ap (all is_zero) (sym (part_part image at service_size service_zero_at 2 (omega arith)))
