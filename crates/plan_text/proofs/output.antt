-- Lengths of what is printed, and room for it.
pub mod Lengths
pub mod Room
