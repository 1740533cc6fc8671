-- Laws of lines and logs; then the statements of specs/.
pub mod Ended
pub mod Forms
pub mod Lines
pub mod RoundTrip
pub mod Replies
pub mod Verdicts
pub mod Same
pub mod Held
pub mod Written
pub mod Feeding
pub mod Occupied
pub mod Counting
pub mod CallLines
pub mod Whole
