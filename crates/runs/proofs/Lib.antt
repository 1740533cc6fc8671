-- What an advance does to a history, the numbers of a reply, and the invariant over lists of calls.
pub mod Out
pub mod Replies
pub mod Invariant
