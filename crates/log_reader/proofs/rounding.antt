-- How large the last column gets.
pub mod ShareLaws
