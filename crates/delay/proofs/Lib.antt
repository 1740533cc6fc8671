-- Sums, the bound over starts, ticks and acceptances, the history beside the state; then the statements of specs/.
pub mod Sums
pub mod Bound
pub mod Starts
pub mod Pass
pub mod Accept
pub mod Promise
pub mod Members
pub mod Book
pub mod DueTimes
pub mod Example
