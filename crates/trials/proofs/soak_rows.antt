-- What the loops keep.
pub mod Digests
pub mod Values
