-- The candidates for a start, and what is asked of the orders among which they are looked for.
pub mod Selection
-- Starts with the candidates.
pub mod Starting
-- The orders that are not out.
pub mod Leaving
