-- The bound that every step keeps, the events of a history, and what holds after every list of them.
pub mod Bound
pub mod General
pub mod Promise
pub mod Events
pub mod DueTimes
