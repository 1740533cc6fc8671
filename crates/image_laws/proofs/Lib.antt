-- Numbers, rows and parts, then whole images; tests and what they say, then the statements about sound images, and the first questions about one.
pub mod Numbers
pub mod Rows
pub mod Parts
pub mod Written
pub mod Overwritten
pub mod Read
pub mod Tests
pub mod Zeros
pub mod Rewritten
pub mod Clauses
pub mod Facts
pub mod Sound
pub mod Fits
pub mod Fresh
pub mod SoundImage
pub mod Questions
