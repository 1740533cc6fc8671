-- Demand 3 of definite lists, computed; then the uses, claim by claim.
pub mod Words
pub mod DefiniteLists
pub mod DueTimes
pub mod Progress
pub mod ByHistory
pub mod Offers
pub mod Formats
pub mod Ticks
pub mod Advances
pub mod Served
pub mod Plans
pub mod Logs
pub mod Table
