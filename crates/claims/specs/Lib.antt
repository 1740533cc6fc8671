-- What holds after every list of calls and of every image, and all of it in one record.
pub mod Demand3
pub mod ByHistory
pub mod Progress
pub mod Images
pub mod Declines
pub mod WorkedCases
pub mod Claims
