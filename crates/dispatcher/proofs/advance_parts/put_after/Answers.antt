-- Three stores over the image of the state.
use native.Mathlib.Omega.{arith}
use Rattle.image.proofs.Carried.{few}
use Rattle.tick.proofs.leaving.LeaveLaws.{count_is}
use Rattle.dispatcher.proofs.advance_parts.After.{held, holds, written}
use Rattle.dispatcher.proofs.advance_parts.put_after.Goals as goal

pub leave-kept-requires : goal.leave-kept-requires
leave-kept-requires c =
    let pre = c.requires in
    rw (c.from.ensures, c.from-2.ensures, pre.0) (held pre.1, holds pre.1)

pub overflow_cast-kept : goal.overflow_cast-kept
overflow_cast-kept c =
    omega (arith, c.leave-kept.ensures.few, count_is c.args.image.now c.from-2.result, c.from-2.ensures, few c.requires.1)

pub returns : goal.returns
returns c =
    let pre = c.requires in
    let left = rw (c.from.ensures, c.from-2.ensures, pre.0) at c.leave-kept.ensures in
    let entries = rw c.vacate_all-vacant.ensures at c.put_services.ensures in
    written pre.1 left pre.3 c.put_header.ensures entries.0 entries.1
