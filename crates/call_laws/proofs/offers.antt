-- The questions, on time or late, and the smallest margin give what an offer returns; what it leaves follows from the state with the arrival accepted.
pub mod Questions
pub mod Times
pub mod Signs
pub mod Margins
pub mod Accept
pub mod Bounds
pub mod Exact
pub mod Kept
pub mod DefaultDueIn
