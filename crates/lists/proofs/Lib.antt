-- Laws of lists that the code's layers share.
pub mod Stores
pub mod Fills
pub mod Tests
pub mod Questions
pub mod Maxima
pub mod Overlays
pub mod Signs
pub mod Rounding
pub mod Library
pub mod Eights
pub mod Arrays
pub mod Parts
pub mod RowByRow
