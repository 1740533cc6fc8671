-- What a line of a log can hold, and what a workshop can rely on, in plain terms.
pub mod Fits
pub mod Meaning
