-- Document 02, (iv), as definitions: a log's lines, what is printed for it, and its reading byte by byte.
pub mod Limits
pub mod Lines
pub mod Rounding
pub mod Rerun
pub mod Output
pub mod Reading
pub mod Written
pub mod Cases
