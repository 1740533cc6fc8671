-- What the probes answer.
pub mod Recode
-- Plan over and over.
pub mod Rounds
