-- The station and the three bytes after it are a number of one byte; those three and the four at the end are the two parts.
use native.Mathlib.Omega.{arith}
use mathlib.Core.Path.{◌≡◌, sym}
use Prim.Native.Nat.{◌+◌, ◌*◌}
use mir.Syntax.{w8}
use mir.Val.{Fits}
use borrow.Author.Rules.{rules}
use Rattle.model.specs.Bytes.{byte}
use Rattle.model.specs.Lists.{part, is_zero}
use Rattle.model.specs.Layout.{records_at, record_size, station_at, station_zero_at, record_zero_at, record_part}
use Rattle.lists.proofs.Tests.{all_append}
use Rattle.soundness.proofs.Parts.{part_part, zero_rest, zero_word}
use Rattle.soundness.proofs.zeros.record_zero.Goals as goal

pub returns : goal.returns
returns c =
    let image = c.args.image.now in
    let i = c.args.i in
    let at = records_at + record_size * i in
    let small : Fits w8 (byte image (at + station_at)) = search rules in
    let next : at + station_at + 1 ≡ at + station_zero_at = omega arith in
    rw (
      c.u32_at.ensures,
      c.u32_at-2.ensures,
      zero_rest image (at + station_at) (omega arith) small.fits,
      next,
      zero_word image (at + record_zero_at) (omega arith),
      ← part_part image at record_size station_zero_at 3 (omega arith),
      ← part_part image at record_size record_zero_at 4 (omega arith),
    )
    (sym (all_append is_zero (part (record_part image i) station_zero_at 3) (part (record_part image i) record_zero_at 4)))
