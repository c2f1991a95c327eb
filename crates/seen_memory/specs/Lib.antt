pub mod Seen
pub mod Draining
