-- What the course of a tick means, said without computing.
pub mod Valid
pub mod Precedence
pub mod Starts
pub mod Pass
pub mod Accept
pub mod Course
pub mod Timing
pub mod Out
