-- The block that an order by format stands for, its bytes, and the questions give what such a call returns and leaves.
pub mod Block
pub mod Exact
