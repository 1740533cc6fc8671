-- What is printed.
pub mod Laws
