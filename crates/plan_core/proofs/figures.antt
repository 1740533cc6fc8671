-- The figures one by one, and those of a list of tasks.
pub mod Numbered
pub mod Same
