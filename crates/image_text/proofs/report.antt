-- Laws of the printed text.
pub mod Lengths
pub mod Room
pub mod Example
