pub mod FirstCase
pub mod TieCases
pub mod DefaultCases
pub mod FormatCases
pub mod Cases
