-- The calls by their numbers.
pub mod Declines
