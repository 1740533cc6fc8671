-- The records from place `kept` on are the part that is filled.
use Rattle.std.proofs.Common.{rules, ◌≡◌, ℕ, ◌+◌, ◌-◌, ◌*◌, ◌≤◌, length, arith}
use borrow.Rule.Slice.PartMut.{mid_len}
use lib.ListN.{length-replicate}
use Rattle.model.specs.Layout.{records_at, record_size}
use Rattle.lists.proofs.Parts.{stored_mid}
use Rattle.tick.proofs.leaving.put_unused.Goals as goal

pub returns : goal.returns
returns c =
    let at = records_at + record_size * c.args.kept in
    let end = records_at + record_size * c.args.live in
    let image = c.args.image.now in
    let whole : length image ≡ 2128 = search rules in
    let size : end - at ≡ record_size * (c.args.live - c.args.kept) = omega arith in
    let room : end ≤ length image = omega arith in
    rw (c.fill.ensures.after (λ y e. e), mid_len at end image room, size) (stored_mid at _ image _ (omega arith) (length-replicate {A = ℕ} _ 0))
