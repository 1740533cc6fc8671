-- The walk over the lent list.
pub mod Walk
