-- The questions give what an advance returns; what it leaves follows from the state after the tick, which is sound.
pub mod Exact
pub mod Advance
pub mod Kept
