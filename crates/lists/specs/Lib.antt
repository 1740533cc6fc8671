-- What code does to a list of bytes.
pub mod Stored
