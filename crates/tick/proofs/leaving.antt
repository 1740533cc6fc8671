-- The loop over the live orders.
pub mod LeaveLaws
