-- What the definitions of a log mean, and the worked cases.
pub mod Rounding
pub mod Agreement
pub mod Feeding
pub mod Cases
