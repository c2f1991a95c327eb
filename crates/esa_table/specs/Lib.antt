pub mod Search
pub mod Encoding
