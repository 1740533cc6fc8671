-- The three questions give what an open returns; what it leaves is the image of the fresh state, which is sound.
pub mod Exact
