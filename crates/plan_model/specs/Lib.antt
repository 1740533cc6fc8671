-- Document 01, "The standing table": plan's figures, its questions, and the plan program from input bytes to output bytes.
pub mod Limits
pub mod Records
pub mod Base
pub mod Response
pub mod Plan
pub mod Number
pub mod Input
pub mod Output
pub mod Meaning
pub mod Overlap
pub mod Thesis
pub mod Cases
