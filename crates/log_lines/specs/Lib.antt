-- What the contracts say that `log_model` does not: the order that values say, what a line records, and what a method leaves of a log that is run.
pub mod Orders
pub mod Recorded
pub mod Running
