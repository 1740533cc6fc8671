-- By the test: the records of those that remain, and zeros; or nothing.
use Rattle.std.proofs.Common.{sym, ◌∙◌}
use Rattle.tick.proofs.leaving.LeaveLaws.{room_for, kept_few, left, none_leaves}
use Rattle.tick.proofs.leaving.leave.Goals as goal

pub put_unused-requires : goal.put_unused-requires
put_unused-requires c = (kept_few _ _ c.put_remaining-kept.ensures, room_for _ _ c.requires.0)

pub returns-then-any_leaves : goal.returns-then-any_leaves
returns-then-any_leaves c = left _ _ c.put_remaining-kept.ensures c.put_unused.ensures

pub returns : goal.returns
returns c = none_leaves _ _ c.requires.0 (sym c.any_leaves.ensures ∙ c.if-any_leaves.false) c.requires.1
