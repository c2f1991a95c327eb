pub mod Counting
pub mod Jobs
pub mod Joined
pub mod Parts
