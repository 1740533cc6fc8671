-- Each clause is what its function says.
use Rattle.image_text.proofs.first_flaw.LaterLaws.{later_is}
use Rattle.image_text.proofs.first_flaw.later_clauses.Goals as goal

pub returns : goal.returns
returns c =
    let counted = c.args.counted in
    later_is _ counted.stations counted.orders c.u32_at-clock.ensures c.all_tested-tests.ensures c.zero_bytes_zero.ensures c.unused_records_zero.ensures
    c.tickets_in_order.ensures c.idle_beyond.ensures c.services_in_order.ensures
