-- Laws of the call, and of the image after the tick.
pub mod AdvanceLaws
pub mod After
