-- The order blocks that a long run draws.
pub mod Draw
-- What a program prints of a call.
pub mod CaseLines
-- What a long run carries from call to call, and what is printed of it.
pub mod Digest
pub mod Run
pub mod Row
