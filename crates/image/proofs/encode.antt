-- What is written, row by row.
pub mod Rows
