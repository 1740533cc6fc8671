-- Laws of signed numbers and of the smallest margin.
pub mod SignLaws
pub mod LeastLaws
