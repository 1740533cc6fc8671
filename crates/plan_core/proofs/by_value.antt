-- What the core gives is what plan gives.
pub mod Laws
