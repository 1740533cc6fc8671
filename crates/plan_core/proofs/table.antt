-- The rows of tasks in range.
pub mod Rows
