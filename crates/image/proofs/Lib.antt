-- What such a state gives the code that carries it, and that a sound image is decoded to one.
pub mod Carried
pub mod Decoded
