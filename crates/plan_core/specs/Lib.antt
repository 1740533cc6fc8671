-- Why plan declines.
pub mod Refusal
-- The task set as plain numbers.
pub mod Ranged
pub mod Table
-- The response iteration over plain numbers.
pub mod Response
-- The figures of every task, over plain numbers.
pub mod Figures
-- What the core gives.
pub mod ByValue
