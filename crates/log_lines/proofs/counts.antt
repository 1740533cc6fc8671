-- Busy ticks, station by station, and the stations where an order is.
pub mod CountLaws
