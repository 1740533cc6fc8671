-- Laws of the limits.
pub mod LimitLaws
