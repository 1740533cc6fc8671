-- The claims, from the invariant over lists of calls.
pub mod Demand3
pub mod ByFormat
pub mod ByHistory
pub mod Progress
pub mod Images
pub mod Declines
pub mod WorkedCases
pub mod Claims
