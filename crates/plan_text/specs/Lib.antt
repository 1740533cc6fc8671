-- A list at the front of an array.
pub mod Padded
-- The answer about an input.
pub mod Answer
-- What question 17 says.
pub mod TaskLines
-- What the plan program's input says.
pub mod Parsed
pub mod Accepted
-- The tasks with their figures.
pub mod Planned
