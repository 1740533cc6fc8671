-- An image and the state that it says.
pub mod Iff
pub mod InRange
pub mod RoundTrip
pub mod SoundFacts
pub mod Fresh
pub mod SoundImage
pub mod Usable
