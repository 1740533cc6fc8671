-- Laws of lists, who goes before whom, the choice, and the three steps; then the statements of specs/.
pub mod Laws
pub mod Precedence
pub mod Choice
pub mod Starts
pub mod Pass
pub mod Accept
pub mod Course
pub mod Timing
pub mod Out
pub mod Example
