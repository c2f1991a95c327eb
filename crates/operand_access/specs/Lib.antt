pub mod Seen
pub mod Fetch
