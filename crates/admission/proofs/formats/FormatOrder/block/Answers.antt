-- The rows of the block, by what the sheet says.
use Rattle.model.specs.Formats.{fixed_ticks, speeds, format_cost}
use Rattle.call_laws.proofs.formats.Block.{few_moving}
use Rattle.admission.specs.Formats.{held_block}
use Rattle.admission.proofs.formats.FormatOrder.block.Goals as goal

pub station_costs-requires : goal.station_costs-requires
unfolding speeds
station_costs-requires c = (few_moving _ _ c.requires, rw c.eight_halves_at-speeds.ensures c.requires.moving)

pub returns : goal.returns
unfolding held_block format_cost fixed_ticks speeds
returns c =
    rw (c.station_ranks.ensures, c.station_costs.ensures, c.long_side.ensures, c.eight_halves_at-speeds.ensures, c.eight_halves_at-fixed.ensures)
