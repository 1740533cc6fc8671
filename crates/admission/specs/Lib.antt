-- The block of an order by format, in two bytes a cost.
pub mod Formats
-- The range of margins.
pub mod Margins
-- What the answers to an offer say.
pub mod Decision
-- The arrival, and what the answers to an offer say.
pub mod Arrival
pub mod OrderQuestions
-- What is asked of an image before an order is accepted into it.
pub mod Acceptance
