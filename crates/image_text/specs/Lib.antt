-- What `inspect` prints of an image.
pub mod Report
-- The clauses of soundness, by the names that the code gives them.
pub mod Records
pub mod FirstFlaw
-- What `inspect` prints.
pub mod Explanation
