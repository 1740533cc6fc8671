-- How long a line is.
pub mod Room
