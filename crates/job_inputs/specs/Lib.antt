pub mod Reads
pub mod Accepts
