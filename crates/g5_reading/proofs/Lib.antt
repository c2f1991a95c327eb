pub mod ReadLoop
pub mod Limits
