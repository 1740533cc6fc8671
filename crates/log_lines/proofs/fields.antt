-- The form of a line and what its numbers say, the order that they say, and the largest values of an order's fields.
pub mod OrderLaws
pub mod FormLaws
pub mod ReadingLaws
