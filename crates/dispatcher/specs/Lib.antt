-- What the contracts of the calls say, and what a call comes to once its reply has its length.
pub mod Gives
pub mod Comes
-- What is left of a quote and an offer once their block is there.
pub mod Taken
