-- What is printed by the tests that decide it, the length of each text, and room for it.
pub mod Cases
pub mod Lengths
pub mod Room
