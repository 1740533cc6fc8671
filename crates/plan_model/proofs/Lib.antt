-- What the definitions mean.
pub mod Releases
pub mod Sequence
pub mod Ranges
pub mod Steps
pub mod Meaning
pub mod Overlap
pub mod Thesis
pub mod Cases
pub mod Leaves
