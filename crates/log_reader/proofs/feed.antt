-- What one byte more makes of what was fed, and what is reached by chunks of bytes.
pub mod FeedLaws
pub mod ReachedLaws
